-- What is said of threads: when two are one, and the object of each.
use Rattle.std.specs.Prelude.{ℕ, ◌==◌, ◌&&◌, Bool, true, false}
use Rattle.run_journal.specs.declared.thread.Thread.{Thread}
use Rattle.run_journal.specs.declared.thread.Thread.TheVariants.{Main, Of, Release, Clock}

-- whether two threads are one
abbrev pub is_thread : Thread → Thread → Bool
is_thread Main Main = true
is_thread (Of o) (Of p) = o == p
is_thread (Release o k) (Release p j) = o == p && k == j
is_thread Clock Clock = true
is_thread _ _ = false

-- the object on which a thread's End and Fail stand: 0 for main, else the thread's object; the clock has none and makes neither, so 0
abbrev pub own_object : Thread → ℕ
own_object Main = 0
own_object (Of o) = o
own_object (Release o _) = o
own_object Clock = 0
