-- The spans and the runs of one operation's parts.
use Rattle.std.proofs.Common.{◌≡◌, ℕ, ◌+◌, ◌<◌, true, List, [], ◌∷◌, ◌++◌, length, take, flat_map, refl, sym, ap, ◌∙◌}
use Rattle.std.proofs.Common.{get_or, append-nil}
use Rattle.std.specs.List.{list_all}
use Rattle.std.proofs.lemmas.Bool.{and_parts, and_from}
use Rattle.std.proofs.lemmas.List.{take_more}
use Rattle.std.proofs.lemmas.List.Concat.{flat_map-append}
use Rattle.std.proofs.lemmas.List.Folds.{list_all-append}
use Rattle.pad_model.specs.Checked.{is_run, is_span, is_part}
use Rattle.pad_model.specs.Parts.{runs_in, spans_in}
use Rattle.pad_model.specs.declared.op.Part.{Part}
use Rattle.pad_model.specs.declared.op.Part.TheVariants.{Insert, Delete, Comment, Resolve}

-- the parts of a list that a loop has passed, and one more
pub flat_more : {B : Type 0} (f : Part → List B) (parts : List Part) (i : ℕ) (part : Part) → i < length parts →
    part ≡ get_or parts i part → flat_map f (take (i + 1) parts) ≡ flat_map f (take i parts) ++ f part
flat_more f parts i part h e =
    ap (flat_map f) (take_more parts i part h ∙ ap (λ p. take i parts ++ p ∷ []) (sym e))
    ∙ flat_map-append f (take i parts) (part ∷ [])
    ∙ ap (λ l. flat_map f (take i parts) ++ l) (append-nil (f part))

-- spans within the limits, and runs
pub spans_checked_in : (origin : ℕ) (parts : List Part) → list_all (is_part origin) parts ≡ true →
    list_all is_span (spans_in parts) ≡ true
spans_checked_in origin [] h = refl
spans_checked_in origin (Insert run ∷ parts) h = spans_checked_in origin parts (and_parts _ _ h).1
spans_checked_in origin (Delete spans ∷ parts) h =
    let both = and_parts _ _ h in
    list_all-append is_span spans (spans_in parts) ∙ and_from _ _ (and_parts _ _ both.0).1
    (spans_checked_in origin parts both.1)
spans_checked_in origin (Comment first last text ∷ parts) h = spans_checked_in origin parts (and_parts _ _ h).1
spans_checked_in origin (Resolve comment ∷ parts) h = spans_checked_in origin parts (and_parts _ _ h).1

pub runs_checked_in : (origin : ℕ) (parts : List Part) → list_all (is_part origin) parts ≡ true →
    list_all (is_run origin) (runs_in parts) ≡ true
runs_checked_in origin [] h = refl
runs_checked_in origin (Insert run ∷ parts) h = let both = and_parts _ _ h in
    and_from _ _ both.0 (runs_checked_in origin parts both.1)
runs_checked_in origin (Delete spans ∷ parts) h = runs_checked_in origin parts (and_parts _ _ h).1
runs_checked_in origin (Comment first last text ∷ parts) h = runs_checked_in origin parts (and_parts _ _ h).1
runs_checked_in origin (Resolve comment ∷ parts) h = runs_checked_in origin parts (and_parts _ _ h).1
