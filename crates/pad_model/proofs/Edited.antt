-- An operation that a log may take, applied to the cells of that log.
use Rattle.std.proofs.Common.{◌≡◌, ◌+◌, ◌≤◌, true, ◌&&◌, List, [], ◌∷◌, ◌++◌, length, Ok, refl, sym, ap, ap₂, ◌∙◌}
use Rattle.std.proofs.Common.{flat_map, count_by, le-ltb, map}
use Rattle.std.proofs.lemmas.Bool.{and_parts, false≢true}
use Rattle.std.proofs.lemmas.List.Sorted.{list_any-IsPermutation}
use Rattle.std.specs.List.{list_all}
use Rattle.pad_model.specs.Stamp.{Stamp, same_stamp}
use Rattle.pad_model.specs.Cell.{character_of, is_hidden_by}
use Rattle.pad_model.specs.Checked.{is_edit, is_checked}
use Rattle.pad_model.specs.History.{IsHistory, cells_of}
use Rattle.pad_model.specs.Laws.{itself}
use Rattle.pad_model.specs.Legal.{has_stamp, IsTree}
use Rattle.pad_model.specs.Log.{part_is_valid, is_valid, all_differ}
use Rattle.pad_model.specs.Operation.{author_of, inserted_by, span_stamps, characters_in}
use Rattle.pad_model.specs.Parts.{part_fits, spans_in, parts_fit, apply}
use Rattle.pad_model.specs.declared.limits.TheConstants.{MAX_CHARACTERS}
use Rattle.pad_model.specs.declared.op.Part.{Part}
use Rattle.pad_model.specs.declared.op.Part.TheVariants.{Insert, Delete, Comment, Resolve}
use Rattle.pad_model.specs.declared.op.Op.{Op}
use Rattle.pad_model.proofs.Grown.{cells_of-push}
use Rattle.pad_model.proofs.Growth.{IsTree-history}
use Rattle.pad_model.proofs.History.{cells_of-permutation, length-cells_of}
use Rattle.pad_model.proofs.Local.{run_may_join-cells_of}
use Rattle.pad_model.proofs.Maps.{list_any-map}
use Rattle.pad_model.proofs.Parts.{all_same}

-- a stamp is in a log's cells if it was inserted
pub has_stamp-cells_of : (log : List Op) (s : Stamp) → IsTree itself (characters_in log).inserted →
    has_stamp character_of (cells_of log) s ≡ has_stamp itself (characters_in log).inserted s
has_stamp-cells_of log s t =
    sym (list_any-map character_of (λ c. same_stamp c.stamp s) (cells_of log))
    ∙ sym (list_any-IsPermutation (λ c. same_stamp (itself c).stamp s) (characters_in log).inserted
    (map character_of (cells_of log)) (cells_of-permutation log t))

-- an insertion or a deletion fits a log's cells if it is valid after the log
part_fits-cells_of : (log : List Op) (part : Part) → IsTree itself (characters_in log).inserted → is_edit part ≡ true →
    part_fits character_of (cells_of log) part ≡ part_is_valid part log
part_fits-cells_of log (Insert run) t e = run_may_join-cells_of log run.first run.after t
part_fits-cells_of log (Delete spans) t e = all_same (λ s. has_stamp character_of (cells_of log) s)
    (λ s. has_stamp itself (characters_in log).inserted s) (λ s. has_stamp-cells_of log s t)
    (flat_map span_stamps spans)
part_fits-cells_of log (Comment first last text) t e = absurd (false≢true e)
part_fits-cells_of log (Resolve comment) t e = absurd (false≢true e)

each_fits-cells_of : (log : List Op) (parts : List Part) → IsTree itself (characters_in log).inserted →
    list_all is_edit parts ≡ true → list_all (part_fits character_of (cells_of log)) parts
    ≡ list_all (λ part. part_is_valid part log) parts
each_fits-cells_of log [] t e = refl
each_fits-cells_of log (part ∷ parts) t e =
    let both = and_parts _ _ e in
    ap₂ (λ a b. a && b) (part_fits-cells_of log part t both.0) (each_fits-cells_of log parts t both.1)

-- the parts of an edit fit a log's cells if the edit is valid after the log
pub parts_fit-cells_of : (log : List Op) (op : Op) → IsTree itself (characters_in log).inserted →
    list_all is_edit op.parts ≡ true → parts_fit (author_of op) op.parts (cells_of log) ≡ is_valid op log
parts_fit-cells_of log op t e = ap (λ b. b && all_differ (inserted_by op)) (each_fits-cells_of log op.parts t e)

-- an edit that a log may take and that has room leaves the cells of the longer log
pub apply-cells_of : (log : List Op) (op : Op) → IsHistory log → is_checked op ≡ true → list_all is_edit op.parts
    ≡ true → is_valid op log ≡ true → length (characters_in log).inserted + length (inserted_by op) ≤ MAX_CHARACTERS →
    apply (length log + 1) op.parts (author_of op) (cells_of log)
    ≡ (Ok (count_by (is_hidden_by (spans_in op.parts)) (cells_of log)), cells_of (log ++ op ∷ []))
apply-cells_of log op h checked edits valid room =
    let t = IsTree-history log h in
    rw (
      parts_fit-cells_of log op t edits ∙ valid,
      length-cells_of log t,
      le-ltb MAX_CHARACTERS (length (characters_in log).inserted + length (inserted_by op)) room,
    )
    (ap (λ l. (Ok (count_by (is_hidden_by (spans_in op.parts)) (cells_of log)), l))
    (sym (cells_of-push log op h checked valid)))
