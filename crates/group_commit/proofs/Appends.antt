-- The notes of a pad become lines one after the other.
use Rattle.std.proofs.Common.{◌≡◌, ℕ, ◌+◌, ◌<◌, Bool, List, ◌∷◌, ◌++◌, drop, length, vec_len, sym, ap, ◌∙◌, not, ◌||◌, ◌==◌}
use Rattle.std.proofs.Math.ListN.{get_or}
use Rattle.std.proofs.lemmas.List.{append_assoc, drop_more}
use Rattle.store_format.specs.Writing.{texts_of}
use Rattle.group_commit.specs.Notes.{texts_of_notes}
use Rattle.group_commit.specs.declared.queue.Note.{Note}

one_further : (notes : List Note) (note : Note) (i : ℕ) (follows : Bool) (done all : List (List ℕ)) → i < length notes
    → get_or notes i note ≡ note → done ++ texts_of_notes follows (drop i notes) ≡ all →
    (done ++ texts_of note.at follows note.records.items)
    ++ texts_of_notes (follows || not (vec_len note.records == 0)) (drop (i + 1) notes)
    ≡ all
one_further notes note i follows done all within here was =
    append_assoc done (texts_of note.at follows note.records.items)
    (texts_of_notes (follows || not (vec_len note.records == 0)) (drop (i + 1) notes))
    ∙ sym (ap (λ rest. done ++ texts_of_notes follows rest)
    (drop_more notes i note within ∙ ap (λ (n : Note). n ∷ drop (i + 1) notes) here))
    ∙ was

-- the texts so far, those of the next note, and those of the notes behind it are all
pub one_more : (notes : List Note) (note : Note) (i : ℕ) (follows is_empty : Bool) (done all : List (List ℕ)) → i < length notes
    → get_or notes i note ≡ note → is_empty ≡ (vec_len note.records == 0)
    → done ++ texts_of_notes follows (drop i notes) ≡ all →
    (done ++ texts_of note.at follows note.records.items) ++ texts_of_notes (follows || not is_empty) (drop (i + 1) notes) ≡ all
one_more notes note i follows is_empty done all within here empty was =
    ap (λ (b : Bool). (done ++ texts_of note.at follows note.records.items)
    ++ texts_of_notes (follows || not b) (drop (i + 1) notes)) empty
    ∙ one_further notes note i follows done all within here was
