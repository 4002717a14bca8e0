use Rattle.std.proofs.Common.{refl}
use Rattle.stmt_reading.proofs.worked.worked_specifications.Goals as goal

pub returns : goal.returns
returns c = record {
  counting = refl;
  buffer = refl;
  adders = refl;
  endless_call = refl;
  gate = refl;
  faulty_guard = refl;
  threads = refl;
  pair = refl;
  handlers = refl;
  clock = refl;
  diamond = refl;
  library = refl;
  hosts = refl;
  contracts = refl;
  nothing = refl;
  other_name = refl;
  other_function = refl;
  lone_semicolon = refl;
  no_semicolon = refl;
  static_twice = refl;
  head_of_list = refl;
}
