use Rattle.std.proofs.Common.{refl}
use Rattle.ident_index.proofs.CallerLemmas.{get-insert_same}
use Rattle.pad_part_tests.proofs.index.places.a_label_is_changed_and_the_length_is_not.Goals as goal

pub relabel-requires : goal.relabel-requires
relabel-requires g c = rw (c.in_ok-index.ensures, c.in_ok-first.ensures, get-insert_same) refl
