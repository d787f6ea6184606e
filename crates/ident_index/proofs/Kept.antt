-- The contents of a map of keys, read as an index of stamps.
use Rattle.std.proofs.Common.{◌≡◌, cond, List, [], ◌∷◌, Option, Some, None, refl, sym, ap, ◌∙◌}
use Rattle.std.specs.Ordering.{eq_by_cmp, nat_cmp, ordering_then}
use Rattle.std.specs.Option.{IsSome}
use Rattle.std.specs.Map.{lookup}
use Rattle.std.specs.BTreeMap.{is_at}
use Rattle.std.specs.Cmp.{eq_by_cmp_equiv}
use Rattle.std.specs.FinMap.{find, get, insert, remove, get-from_entries, get-insert, get-remove, same_map}
use Rattle.pad_model.specs.Stamp.{Stamp}
use Rattle.ident_index.specs.Index.{Index, stamp_cmp}
use Rattle.ident_index.specs.View.{stamp_of, by_stamp, index_of}
use Rattle.ident_index.specs.declared.place.BlockEntry.{BlockEntry}
use Rattle.ident_index.specs.declared.index.Key.{Key}
use Rattle.ident_index.proofs.Order.{stamp_cmp_total, stamp_cmp-IsAntisymmetric}
use Rattle.std.specs.declared.cmp.Ordering.{Ordering}

flipped : (a b : Stamp) → eq_by_cmp stamp_cmp a b ≡ eq_by_cmp stamp_cmp b a
flipped a b = (eq_by_cmp_equiv stamp_cmp_total).symm a b

-- what the derived `cmp` of keys returns
abbrev pub key_cmp : Key → Key → Ordering
key_cmp a b = ordering_then (nat_cmp a.replica b.replica) (nat_cmp a.counter b.counter)

-- the key of a first stamp
abbrev pub key_of : Stamp → Key
key_of s = record { replica = s.replica; counter = s.counter }

find-by_stamp : (s : Stamp) (es : List (Key × BlockEntry)) → find stamp_cmp s (by_stamp es)
    ≡ lookup (is_at (key_cmp (key_of s))) es
find-by_stamp s [] = refl
find-by_stamp s (e ∷ es) = ap (cond (eq_by_cmp stamp_cmp s (stamp_of e.0)) (Some e.1)) (find-by_stamp s es)

-- the index has at a stamp what the map has at its key
pub get-index_of : (es : List (Key × BlockEntry)) (s : Stamp) → get (index_of es) s ≡ lookup (is_at (key_cmp (key_of s))) es
get-index_of es s = get-from_entries stamp_cmp_total (by_stamp es) s ∙ find-by_stamp s es

-- the same for an index that is known to be stored so
pub get-kept : (es : List (Key × BlockEntry)) (m : Index) (s : Stamp) → index_of es ≡ m →
    get m s ≡ lookup (is_at (key_cmp (key_of s))) es
get-kept es m s is = ap (λ n. get n s) (sym is) ∙ get-index_of es s

-- the entries fs have w at the key of k, and what es has elsewhere
abbrev pub Updated : List (Key × BlockEntry) → List (Key × BlockEntry) → Stamp → Option BlockEntry → Type 0
Updated es fs k w = (q : Key) → lookup (is_at (key_cmp q)) fs ≡ cond (is_at (key_cmp (key_of k)) q) w
    (lookup (is_at (key_cmp q)) es)

get_updated : (es fs : List (Key × BlockEntry)) (m : Index) (k : Stamp) (w : Option BlockEntry) → index_of es ≡ m →
    Updated es fs k w
    → (q : Stamp) → get (index_of fs) q ≡ cond (eq_by_cmp stamp_cmp q k) w (get m q)
get_updated es fs m k w is updated q =
    get-index_of fs q ∙ updated (key_of q) ∙ ap (λ b. cond b w (lookup (is_at (key_cmp (key_of q))) es)) (flipped k q)
    ∙ ap (cond (eq_by_cmp stamp_cmp q k) w) (sym (get-kept es m q is))

-- a map that has e at the key of k is kept as the index with e at k
pub kept_insert : (es fs : List (Key × BlockEntry)) (m : Index) (k : Stamp) (e : BlockEntry) → index_of es ≡ m →
    Updated es fs k (Some e) → index_of fs ≡ insert m k e
kept_insert es fs m k e is updated =
    same_map stamp_cmp_total stamp_cmp-IsAntisymmetric _ _ (λ q. get_updated es fs m k (Some e) is updated q
    ∙ sym (get-insert stamp_cmp_total m k e q))

-- a map that has nothing at the key of k is kept as the index without k
pub kept_remove : (es fs : List (Key × BlockEntry)) (m : Index) (k : Stamp) → index_of es ≡ m → Updated es fs k None →
    index_of fs ≡ remove m k
kept_remove es fs m k is updated =
    same_map stamp_cmp_total stamp_cmp-IsAntisymmetric _ _ (λ q. get_updated es fs m k None is updated q
    ∙ sym (get-remove stamp_cmp_total m k q))

-- what is there is not absent
pub there : (o : Option BlockEntry) → IsSome o → o ≡ None → ⊥
there None some none = cc some
there (Some e) some none = cc none
