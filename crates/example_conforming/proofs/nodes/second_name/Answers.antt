use Rattle.std.proofs.Common.{refl}
use Rattle.example_conforming.proofs.nodes.second_name.Goals as goal

pub get_struct-requires : goal.get_struct-requires
get_struct-requires g c = λ t shows. rw (c.in-Ok.ensures.table, c.in-Ok.ensures.row) refl

pub get_text-requires : goal.get_text-requires
get_text-requires g c = λ t shows. rw (c.get_struct.ensures.table, c.get_struct.ensures.row, c.in-Ok.ensures.table) refl
