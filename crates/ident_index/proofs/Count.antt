-- The index has as many blocks as the map that keeps it has entries.
use Rattle.std.proofs.Common.{◌≡◌, ◌+◌, cond, List, [], ◌∷◌, length, is_some, ap, ◌∙◌, arith}
use Rattle.std.specs.Ordering.{is_eq}
use Rattle.std.specs.declared.cmp.Ordering.TheVariants.{Less}
use Rattle.std.specs.List.{AllByRecursion}
use Rattle.std.specs.List.Sorted.{IsStrictlySortedBy}
use Rattle.std.specs.Map.{keys_of}
use Rattle.std.specs.BTreeMap.{is_at}
use Rattle.std.specs.FinMap.{len, len-empty, len-insert}
use Rattle.std.proofs.lemmas.Map.{NonePasses, lookup-none}
use Rattle.std.proofs.lemmas.Map.Keys.{sorted_head, sorted_tail}
use Rattle.ident_index.specs.Index.{stamp_cmp}
use Rattle.ident_index.specs.View.{stamp_of, index_of}
use Rattle.ident_index.specs.declared.place.BlockEntry.{BlockEntry}
use Rattle.ident_index.specs.declared.index.Key.{Key}
use Rattle.ident_index.proofs.Order.{stamp_cmp_total}
use Rattle.ident_index.proofs.Kept.{key_cmp, get-index_of}

none_at : (k : Key) (es : List (Key × BlockEntry)) → AllByRecursion (λ y. key_cmp k y ≡ Less) (keys_of es) →
    NonePasses (is_at (key_cmp k)) es
none_at k [] h = tt
none_at k (e ∷ es) h = (ap is_eq h.0, none_at k es h.1)

pub len-index_of : (es : List (Key × BlockEntry)) → IsStrictlySortedBy key_cmp (keys_of es) → len (index_of es) ≡ length es
len-index_of [] sorted = len-empty stamp_cmp BlockEntry
len-index_of (e ∷ es) sorted =
    let fresh = get-index_of es (stamp_of e.0) ∙ lookup-none (is_at (key_cmp e.0)) es
    (none_at e.0 es (sorted_head key_cmp _ _ sorted)) in
    let rest = len-index_of es (sorted_tail key_cmp _ _ sorted) in
    let one : len (index_of (e ∷ es)) ≡ len (index_of es) + 1 =
    len-insert stamp_cmp_total (index_of es) (stamp_of e.0) e.1
    ∙ ap (λ o. cond (is_some o) (len (index_of es)) (len (index_of es) + 1)) fresh in
    omega arith
