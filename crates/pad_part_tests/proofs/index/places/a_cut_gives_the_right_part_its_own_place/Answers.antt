use Rattle.std.proofs.Common.{arith}
use Rattle.ident_index.proofs.CallerLemmas.{get-insert_same}
use Rattle.pad_part_tests.proofs.index.places.a_cut_gives_the_right_part_its_own_place.Goals as goal

pub cut-requires : goal.cut-requires
cut-requires g c = rw (c.in_ok-index.ensures, c.in_ok-first.ensures, get-insert_same) (omega arith, omega arith)
