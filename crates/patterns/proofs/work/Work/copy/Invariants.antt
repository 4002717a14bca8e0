use Rattle.std.proofs.Common.{◌≡◌, take, map}
use Rattle.patterns.specs.Todos.{todo_of}
use Rattle.patterns.proofs.work.Work.copy.Given as goal

-- those so far are copied
abbrev pub invariant-loop-todo : goal.invariant-loop-todo
invariant-loop-todo l = map todo_of l.todos.items ≡ map todo_of (take l.todo-index l.self.todos.items)
