-- The visits alone tell how many operations a visit made, and where the last of them is.
use Rattle.std.proofs.Common.{◌≡◌, ℕ, suc, ◌+◌, ◌-◌, List, [], ◌∷◌, ◌++◌, length, Bool, true, false, cond, eqb}
use Rattle.std.proofs.Common.{refl, sym, ap, ◌∙◌, arith, length-append, slice_get, Option, Some, None, option_map, option_and_then, unwrap_or, append_assoc}
use Rattle.std.specs.List.{last_or}
use Rattle.pad_model.specs.declared.op.Op.{Op}
use Rattle.op_log.specs.Makers.{last_maker, made_in}
use Rattle.op_log.specs.declared.maker_list.Tally.{Tally}

-- a tally to which the operation at a place was added if the visit made it
abbrev pub tally_more : Bool → ℕ → Tally → Tally
tally_more made place tally = cond made (record { made = tally.made + 1; last = Some place }) tally

-- a tally to which the operations from a place on were added
abbrev pub tally_from : ℕ → ℕ → Tally → List ℕ → Tally
tally_from visit place tally [] = tally
tally_from visit place tally (maker ∷ makers) =
    tally_from visit (place + 1) (tally_more (eqb maker visit) place tally) makers

-- the tally of all
abbrev pub tally_of : ℕ → List ℕ → Tally
tally_of visit makers = tally_from visit 0 (record { made = 0; last = None }) makers

-- it counts what the visit made
made_from : (visit place : ℕ) (tally : Tally) (log : List Op) (makers : List ℕ) → length log ≡ length makers →
    (tally_from visit place tally makers).made ≡ tally.made + length (made_in visit log makers)
made_from visit place tally [] [] long = omega arith
made_from visit place tally [] (maker ∷ makers) long = absurd (omega (arith, long))
made_from visit place tally (op ∷ log) [] long = absurd (omega (arith, long))
made_from visit place tally (op ∷ log) (maker ∷ makers) long =
    by_test (eqb maker visit) (λ t. made_from visit (place + 1) t log makers (omega (arith, long)))
  where
    by_test : (b : Bool) →
        ((t : Tally) → (tally_from visit (place + 1) t makers).made ≡ t.made + length (made_in visit log makers)) →
        (tally_from visit (place + 1) (tally_more b place tally) makers).made
        ≡ tally.made + length (cond b (op ∷ made_in visit log makers) (made_in visit log makers))
    by_test true rest = rest (tally_more true place tally) ∙ omega arith
    by_test false rest = rest tally

-- an operation behind others
there : (front log : List Op) (op : Op) → slice_get (front ++ op ∷ log) (length front) ≡ Some op
there [] log op = refl
there (first ∷ front) log op = there front log op

-- the place that it keeps is that of the operation that the visit made last
last_from : (visit : ℕ) (tally : Tally) (whole front log : List Op) (makers : List ℕ) → whole ≡ front ++ log →
    length log ≡ length makers →
    option_and_then (slice_get whole) (tally_from visit (length front) tally makers).last
    ≡ last_or (option_and_then (slice_get whole) tally.last) (made_in visit log makers)
last_from visit tally whole front [] [] is long = refl
last_from visit tally whole front [] (maker ∷ makers) is long = absurd (omega (arith, long))
last_from visit tally whole front (op ∷ log) [] is long = absurd (omega (arith, long))
last_from visit tally whole front (op ∷ log) (maker ∷ makers) is long =
    by_test (eqb maker visit) (λ t.
    ap (λ p. option_and_then (slice_get whole) (tally_from visit p t makers).last) (sym (length-append front (op ∷ [])))
    ∙ last_from visit t whole (front ++ op ∷ []) log makers (is ∙ sym (append_assoc front (op ∷ []) log))
    (omega (arith, long)))
  where
    by_test : (b : Bool) →
        ((t : Tally) → option_and_then (slice_get whole) (tally_from visit (length front + 1) t makers).last
        ≡ last_or (option_and_then (slice_get whole) t.last) (made_in visit log makers)) →
        option_and_then (slice_get whole) (tally_from visit (length front + 1) (tally_more b (length front) tally) makers).last
        ≡ last_or (option_and_then (slice_get whole) tally.last)
        (cond b (op ∷ made_in visit log makers) (made_in visit log makers))
    by_test true rest =
        rest (tally_more true (length front) tally)
        ∙ ap (λ o. last_or o (made_in visit log makers))
        (ap (λ (ops : List Op). slice_get ops (length front)) is ∙ there front log op)
    by_test false rest = rest tally

-- how many operations of a log a visit made
pub tally_made : (visit : ℕ) (log : List Op) (makers : List ℕ) → length log ≡ length makers →
    (tally_of visit makers).made ≡ length (made_in visit log makers)
tally_made visit log makers long = made_from visit 0 (record { made = 0; last = None }) log makers long ∙ omega arith

-- the last of them
pub tally_last : (visit : ℕ) (log : List Op) (makers : List ℕ) → length log ≡ length makers →
    option_and_then (slice_get log) (tally_of visit makers).last ≡ last_or None (made_in visit log makers)
tally_last visit log makers long = last_from visit (record { made = 0; last = None }) log [] log makers refl long

-- the name of an operation at a place, if there is one, is that of the operation
pub name_there : (log : List Op) (place : Option ℕ) (last : Option Op) → option_and_then (slice_get log) place ≡ last →
    option_and_then (λ p. option_map (λ (op : Op). op.name) (slice_get log p)) place ≡ option_map (λ (op : Op). op.name) last
name_there log None last is = ap (option_map (λ (op : Op). op.name)) is
name_there log (Some place) last is = ap (option_map (λ (op : Op). op.name)) is

-- the last item, of some
behind : (o : Option ℕ) (first : ℕ) (makers : List ℕ) →
    slice_get (first ∷ makers) (length makers) ≡ last_or o (first ∷ makers)
behind o first [] = refl
behind o first (maker ∷ makers) = behind (Some first) maker makers

-- the item at the last place made the last operation
pub last_there : (makers : List ℕ) (visit : ℕ) → Some visit ≡ slice_get makers (length makers - 1) → visit ≡ last_maker makers
last_there [] visit is = absurd (cc)
last_there (first ∷ makers) visit is =
    let one : suc (length makers) - 1 ≡ length makers = omega arith in
    ap (λ o. unwrap_or o 0) (is ∙ ap (slice_get (first ∷ makers)) one ∙ behind None first makers)
