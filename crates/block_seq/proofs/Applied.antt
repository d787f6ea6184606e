-- What the parts of one operation leave of kept cells is what they leave of the cells that these stand for.
use Rattle.std.proofs.Common.{◌≡◌, ◌⊎◌, ℕ, ◌+◌, ◌<◌, ◌≤◌, ◌==◌, Bool, true, false, not, ◌&&◌, cond, nat_lt, List, []}
use Rattle.std.proofs.Common.{◌∷◌, ◌++◌, length, Option, Some, None, Result, Ok, Err, refl, sym, ap, ap₂, ◌∙◌, subst}
use Rattle.std.proofs.Common.{map, fold, flat_map, sum_by, count_by, length-append, arith, eqb-true, le-ltb, lt-ltb}
use Rattle.std.proofs.lemmas.Bool.{and_parts, and_from}
use Rattle.std.proofs.lemmas.List.{length-map}
use Rattle.std.proofs.lemmas.List.Sums.{sum_by-cons}
use Rattle.std.specs.List.{list_all}
use Rattle.pad_model.specs.Cell.{Cell, born_at, character_of, is_hidden_by, without_spans, IsInOrder}
use Rattle.pad_model.specs.Character.{run_characters}
use Rattle.pad_model.specs.Checked.{is_part, are_parts}
use Rattle.pad_model.specs.Log.{run_may_join}
use Rattle.pad_model.specs.Operation.{part_inserts}
use Rattle.pad_model.specs.Parts.{AllJoin, part_fits, runs_in, spans_in, inserts_in, with_all, with_parts, apply}
use Rattle.pad_model.specs.declared.limits.TheConstants.{MAX_CHARACTERS}
use Rattle.pad_model.specs.declared.op.Part.{Part}
use Rattle.pad_model.specs.declared.op.Part.TheVariants.{Insert, Delete, Comment, Resolve}
use Rattle.pad_model.specs.declared.refusal.Refusal.TheVariants.{PeerFault, PadFull}
use Rattle.pad_model.specs.declared.who.Author.{Author}
use Rattle.pad_model.proofs.Cells.{length-new_cells}
use Rattle.pad_model.proofs.Maps.{run_may_join-map}
use Rattle.pad_model.proofs.Parts.{all_follow, all_same, with_parts-runs, parts_fit-each, part_fits-map, rises_of_parts}
use Rattle.block_seq.specs.declared.place.PlainCell.{PlainCell}
use Rattle.block_seq.specs.KeptParts.{inserted_size, is_part_run, are_part_spans, with_kept_part}
use Rattle.block_seq.specs.Plain.{author_at, cell_of, cells_of, kept_character, IsPlain, erased_at as kept_erased}
use Rattle.block_seq.proofs.Kept.{grown, inserted, cells_of-erased, IsPlain-erased}

pub parts_each : (origin : ℕ) (parts : List Part) → are_parts origin parts ≡ true → list_all (is_part origin) parts
    ≡ true
parts_each origin parts h = (and_parts _ _ (and_parts _ _ (and_parts _ _ h).0).0).1

part_run : (origin : ℕ) (part : Part) → is_part origin part ≡ true → is_part_run part ≡ true
part_run origin (Insert run) h =
    let whole = and_parts _ _ h in
    let front = and_parts _ _ whole.0 in
    and_from _ _ (and_from _ _ front.0 (Rattle.std.proofs.Common.eq-eqb run.first.replica run.first.replica refl))
    whole.1
part_run origin (Delete spans) h = refl
part_run origin (Comment first last text) h = refl
part_run origin (Resolve comment) h = refl

part_spans_checked : (origin : ℕ) (part : Part) → is_part origin part ≡ true → are_part_spans part ≡ true
part_spans_checked origin (Insert run) h = refl
part_spans_checked origin (Delete spans) h = (and_parts _ _ h).1
part_spans_checked origin (Comment first last text) h = refl
part_spans_checked origin (Resolve comment) h = refl

-- parts in the limits have runs and spans in the limits
pub runs_checked : (origin : ℕ) (parts : List Part) → are_parts origin parts ≡ true → list_all is_part_run parts ≡ true
runs_checked origin parts h = all_follow (is_part origin) is_part_run (part_run origin) parts
    (parts_each origin parts h)

pub spans_checked : (origin : ℕ) (parts : List Part) → are_parts origin parts ≡ true → list_all are_part_spans parts
    ≡ true
spans_checked origin parts h = all_follow (is_part origin) are_part_spans (part_spans_checked origin) parts
    (parts_each origin parts h)

part_length : (author : Author) (part : Part) → length (part_inserts author part) ≡ inserted_size part
part_length author (Insert run) = sym (length-map (run_characters run.first run.after run.text author) (born_at 0))
    ∙ length-new_cells 0 run.first run.after run.text author
part_length author (Delete spans) = refl
part_length author (Comment first last text) = refl
part_length author (Resolve comment) = refl

-- how many characters the parts insert
pub length-inserts_in : (author : Author) (parts : List Part) → length (inserts_in author parts)
    ≡ sum_by inserted_size parts
length-inserts_in author [] = refl
length-inserts_in author (part ∷ parts) =
    length-append (part_inserts author part) (inserts_in author parts) ∙ ap₂ (λ m n. m + n) (part_length author part)
    (length-inserts_in author parts) ∙ sym (sum_by-cons inserted_size part parts)

-- parts fit the cells where they fit the kept ones
pub parts_fit-view : (authors : List Author) (cells kept : List PlainCell) (now : List Cell) (parts : List Part)
    (b : Bool) → cells_of authors cells ≡ now → kept ≡ cells → b ≡ list_all (part_fits kept_character kept) parts →
    list_all (part_fits character_of now) parts ≡ b
parts_fit-view authors cells kept now parts b is same e =
    ap (λ l. list_all (part_fits character_of l) parts) (sym is)
    ∙ all_same (part_fits character_of (cells_of authors cells)) (part_fits kept_character cells)
    (λ part. part_fits-map (cell_of authors) character_of cells part) parts
    ∙ ap (λ l. list_all (part_fits kept_character l) parts) (sym same) ∙ sym e

-- runs that join the cells join the kept ones
kept_runs : (authors : List Author) (a : Author) (i rev : ℕ) (kept : List PlainCell) (now : List Cell)
    (parts : List Part) → IsPlain authors kept → cells_of authors kept ≡ now → i < length authors → author_at authors i
    ≡ a →
    AllJoin rev a now (runs_in parts) →
    IsPlain authors (fold (with_kept_part i rev) kept parts)
    × (cells_of authors (fold (with_kept_part i rev) kept parts) ≡ with_all rev a now (runs_in parts))
kept_runs authors a i rev kept now [] p is h here j = (p, is)
kept_runs authors a i rev kept now (Insert run ∷ parts) p is h here j =
    let may : run_may_join kept_character kept run.first run.after ≡ true =
    sym (run_may_join-map (cell_of authors) character_of kept run.first run.after)
    ∙ ap (λ l. run_may_join character_of l run.first run.after) is ∙ j.0 in
    let one = inserted authors kept run i rev p h may in
    kept_runs authors a i rev (with_kept_part i rev kept (Insert run)) _ parts one.0
    (one.1 ∙ ap₂ (λ who l. Rattle.pad_model.specs.Cell.with_run rev run who l) here is) h here j.1
kept_runs authors a i rev kept now (Delete spans ∷ parts) p is h here j =
    kept_runs authors a i rev kept now parts p is h here j
kept_runs authors a i rev kept now (Comment first last text ∷ parts) p is h here j =
    kept_runs authors a i rev kept now parts p is h here j
kept_runs authors a i rev kept now (Resolve comment ∷ parts) p is h here j =
    kept_runs authors a i rev kept now parts p is h here j

-- what the parts leave, step by step
pub parts_joined : (old new : List Author) (a : Author) (cells marked after : List PlainCell) (now : List Cell)
    (parts : List Part) (i rev : ℕ) →
    IsPlain old cells → cells_of old cells ≡ now → (new ≡ old) ⊎ (new ≡ old ++ a ∷ []) → (i < length new)
    × (author_at new i ≡ a) → are_parts a.origin parts ≡ true → list_all (part_fits character_of now) parts ≡ true →
    marked ≡ map (kept_erased rev (spans_in parts)) cells → after ≡ fold (with_kept_part i rev) marked parts →
    IsPlain new after × (cells_of new after ≡ with_parts rev parts a now)
parts_joined old new a cells marked after now parts i rev p is more here checked fit erased put =
    let wide = grown old new a cells p more in
    let so : cells_of new marked ≡ without_spans rev (spans_in parts) now = ap (cells_of new) erased
    ∙ cells_of-erased new rev (spans_in parts) cells ∙ ap (without_spans rev (spans_in parts)) (wide.1 ∙ is) in
    let runs = with_parts-runs rev a parts now (subst IsInOrder is p.order)
    (rises_of_parts a.origin parts checked) fit in
    let done = kept_runs new a i rev marked (without_spans rev (spans_in parts) now) parts
    (IsPlain-erased new rev (spans_in parts) cells marked wide.0 erased) so here.0 here.1 runs.0 in (
      subst (IsPlain new) (sym put) done.0,
      ap (cells_of new) put ∙ done.1 ∙ runs.1,
    )

-- what the parts answer, case by case
pub apply-fault : (rev : ℕ) (parts : List Part) (author : Author) (now : List Cell) → are_parts author.origin parts
    ≡ true → list_all (part_fits character_of now) parts ≡ false → apply rev parts author now ≡ (Err PeerFault, now)
apply-fault rev parts author now checked e = rw (parts_fit-each author parts now checked, e) refl

pub apply-full : (rev : ℕ) (parts : List Part) (author : Author) (now : List Cell) → are_parts author.origin parts
    ≡ true → list_all (part_fits character_of now) parts ≡ true → MAX_CHARACTERS < length now
    + length (inserts_in author parts) →
    apply rev parts author now ≡ (Err PadFull, now)
apply-full rev parts author now checked e h =
    rw (
      parts_fit-each author parts now checked,
      e,
      lt-ltb MAX_CHARACTERS (length now + length (inserts_in author parts)) h,
    ) refl

pub apply-ok : (rev : ℕ) (parts : List Part) (author : Author) (now : List Cell) → are_parts author.origin parts
    ≡ true → list_all (part_fits character_of now) parts ≡ true → length now + length (inserts_in author parts)
    ≤ MAX_CHARACTERS →
    apply rev parts author now ≡ (Ok (count_by (is_hidden_by (spans_in parts)) now), with_parts rev parts author now)
apply-ok rev parts author now checked e h =
    rw (
      parts_fit-each author parts now checked,
      e,
      le-ltb MAX_CHARACTERS (length now + length (inserts_in author parts)) h,
    ) refl
