-- An operation is read back from its bytes.
use Rattle.std.proofs.Common.{◌≡◌, ℕ, ◌-◌, ◌^◌, ◌<◌, min, max, List, [], ◌∷◌, ◌++◌, length, flat_map, Option}
use Rattle.std.proofs.Common.{Some, None, refl, sym, ap, ◌∙◌, arith, append_assoc, append-nil, slice_index_or, lit<}
use Rattle.std.specs.List.{AllByRecursion}
use Rattle.std.specs.Char.{IsScalar}
use lib.Utf8.{scalar_fits}
use Rattle.std.proofs.lemmas.Bool.{lt-ltb, ne_eqb}
use Rattle.pad_model.specs.Stamp.{Stamp}
use Rattle.pad_model.specs.Seen.{IsVector, with_count}
use Rattle.pad_model.specs.declared.limits.TheConstants.{MAX_COUNTER}
use Rattle.pad_model.specs.declared.seen.Counted.{Counted}
use Rattle.pad_model.specs.declared.op.OpName.{OpName}
use Rattle.pad_model.specs.declared.op.Span.{Span}
use Rattle.pad_model.specs.declared.op.Run.{Run}
use Rattle.pad_model.specs.declared.op.Part.{Part}
use Rattle.pad_model.specs.declared.op.Part.TheVariants.{Insert, Delete, Comment, Resolve}
use Rattle.pad_model.specs.declared.op.Op.{Op}
use Rattle.pad_model.proofs.Each.{each-right}
use Rattle.op_log.specs.Number.{number_bytes, number_at, after_number}
use Rattle.op_log.specs.Packed.{stamp_bytes, parent_bytes, text_bytes, span_bytes, name_bytes, part_bytes, counted_bytes}
use Rattle.op_log.specs.Packed.{seen_bytes, parts_bytes, op_bytes}
use Rattle.op_log.specs.Fits.{FitsName, FitsStamp, FitsParent, FitsText, FitsSpan, FitsSpans, FitsPart, FitsCounted}
use Rattle.op_log.specs.Fits.{FitsSeen, IsFitting}
use Rattle.op_log.specs.Read.{Read, read_all, read_name, stamp_near, read_stamp, read_parent}
use Rattle.op_log.specs.Read.{read_character, read_text, read_span, read_spans, read_counted, with_counts}
use Rattle.op_log.specs.Read.{read_seen, read_part, read_parts, read_op, read_kind, read_insert, read_delete}
use Rattle.op_log.specs.Read.{read_comment, read_resolve, author_place}
use Rattle.op_log.proofs.Numbers.{number_at_bytes, after_number_bytes}

-- what is written is read, and the rest is left
abbrev pub IsBack : {A : Type 0} → (List ℕ → Read A) → List ℕ → A → Type 0
IsBack read bytes x = (rest : List ℕ) → read (bytes ++ rest) ≡ record { value = x; rest = rest }

-- two numbers, one behind the other
two_at : (m n : ℕ) (rest : List ℕ) → m < 2 ^ 64 → number_at ((number_bytes m ++ number_bytes n) ++ rest) ≡ m
two_at m n rest lt = rw (append_assoc (number_bytes m) (number_bytes n) rest)
    (number_at_bytes m (number_bytes n ++ rest) lt)

two_after : (m n : ℕ) (rest : List ℕ) → after_number ((number_bytes m ++ number_bytes n) ++ rest)
    ≡ number_bytes n ++ rest
two_after m n rest = rw (append_assoc (number_bytes m) (number_bytes n) rest)
    (after_number_bytes m (number_bytes n ++ rest))

-- a pair of numbers is read by what is made of them
two_back : {A : Type 0} (make : ℕ → ℕ → A) (m n : ℕ) → m < 2 ^ 64 → n < 2 ^ 64 →
    IsBack (λ bytes. record {
      value = make (number_at bytes) (number_at (after_number bytes));
      rest = after_number (after_number bytes);
    }) (number_bytes m ++ number_bytes n) (make m n)
two_back {A = A} make m n lt lt' rest =
    rw (two_at m n rest lt, two_after m n rest, number_at_bytes n rest lt', after_number_bytes n rest) refl

pub stamp_back : (s : Stamp) → FitsStamp s → IsBack read_stamp (stamp_bytes s) s
stamp_back s fits rest =
    let counter : max (min s.counter MAX_COUNTER) 1 ≡ s.counter = omega arith in
    let replica : max (min s.replica 65535) 1 ≡ s.replica = omega arith in
    two_back stamp_near s.counter s.replica (omega arith) (omega arith) rest
    ∙ rw (counter, replica) refl

pub name_back : (n : OpName) → FitsName n → IsBack read_name (name_bytes n) n
name_back n fits rest =
    let small : min n.origin 65535 ≡ n.origin = omega arith in
    let make : ℕ → ℕ → OpName = λ o k. record { origin = min o 65535; number = k } in
    two_back make n.origin n.number (omega arith) fits.1 rest
    ∙ rw small refl

pub counted_back : (p : Counted) → FitsCounted p → IsBack read_counted (counted_bytes p) p
counted_back p fits rest =
    let small : min p.origin 65535 ≡ p.origin = omega arith in
    let make : ℕ → ℕ → Counted = λ o k. record { origin = min o 65535; count = k } in
    two_back make p.origin p.count (omega arith) fits.1 rest
    ∙ rw small refl

pub parent_back : (p : Option Stamp) → FitsParent p → IsBack read_parent (parent_bytes p) p
parent_back None fits rest = rw (number_at_bytes 0 rest (omega arith), after_number_bytes 0 rest) refl
parent_back (Some s) fits rest =
    rw (
      append_assoc (number_bytes 1) (stamp_bytes s) rest,
      number_at_bytes 1 (stamp_bytes s ++ rest) (omega arith),
      after_number_bytes 1 (stamp_bytes s ++ rest),
    ) (ap (λ (r : Read Stamp). let out : Read (Option Stamp) = record { value = Some r.value; rest = r.rest } in out)
    (stamp_back s fits rest))

pub character_back : (c : ℕ) → IsScalar c → IsBack read_character (number_bytes c) c
character_back c is rest =
    let bound = scalar_fits c is in
    let small : min c (2 ^ 32 - 1) ≡ c = omega arith in
    rw (number_at_bytes c rest (omega arith), after_number_bytes c rest, small, is) refl

-- one behind the other
pub all_back : {A : Type 0} (P : A → Type 0) (read : List ℕ → Read A) (f : A → List ℕ) →
    ((x : A) → P x → IsBack read (f x) x) → (xs : List A) → AllByRecursion P xs → (rest : List ℕ) →
    read_all read (length xs) (flat_map f xs ++ rest) ≡ record { value = xs; rest = rest }
all_back P read f back [] fits rest = refl
all_back {A = A} P read f back (x ∷ xs) fits rest =
    rw (append_assoc (f x) (flat_map f xs) rest, back x fits.0 (flat_map f xs ++ rest))
    (ap (λ (r : Read (List A)). let out : Read (List A) = record { value = x ∷ r.value; rest = r.rest } in out)
    (all_back P read f back xs fits.1 rest))

-- a count, and so many
pub counted_all_back : {A : Type 0} (P : A → Type 0) (read : List ℕ → Read A) (f : A → List ℕ) →
    ((x : A) → P x → IsBack read (f x) x) → (xs : List A) → length xs < 2 ^ 64 → AllByRecursion P xs →
    IsBack (λ bytes. read_all read (number_at bytes) (after_number bytes)) (number_bytes (length xs) ++ flat_map f xs) xs
counted_all_back P read f back xs lt fits rest =
    rw (
      append_assoc (number_bytes (length xs)) (flat_map f xs) rest,
      number_at_bytes (length xs) (flat_map f xs ++ rest) lt,
      after_number_bytes (length xs) (flat_map f xs ++ rest),
    ) (all_back P read f back xs fits rest)

pub text_back : (t : List ℕ) → FitsText t → IsBack read_text (text_bytes t) t
text_back t fits = counted_all_back IsScalar read_character number_bytes character_back t fits.0 fits.1

pub span_back : (s : Span) → FitsSpan s → IsBack read_span (span_bytes s) s
span_back s fits rest =
    let with_len : Read Stamp → Read Span = λ r. record {
      value = record { first = r.value; len = number_at r.rest };
      rest = after_number r.rest;
    } in
    let all = (stamp_bytes s.first ++ number_bytes s.len) ++ rest in
    let parted = append_assoc (stamp_bytes s.first) (number_bytes s.len) rest in
    ap (λ (b : List ℕ). with_len (read_stamp b)) parted
    ∙ ap with_len (stamp_back s.first fits.0 (number_bytes s.len ++ rest))
    ∙ rw (number_at_bytes s.len rest fits.1, after_number_bytes s.len rest) refl

pub spans_back : (ss : List Span) → FitsSpans ss → IsBack read_spans (number_bytes (length ss) ++ flat_map span_bytes ss) ss
spans_back ss fits = counted_all_back FitsSpan read_span span_bytes span_back ss fits.0 fits.1

-- ---- a version vector
count_at_end : (seen : List Counted) (p : Counted) (ps : List Counted) → IsVector (seen ++ p ∷ ps) →
    with_count seen p.origin p.count ≡ seen ++ p ∷ []
count_at_end [] p ps vector = rw (ne_eqb p.count 0 (λ e. omega (arith, vector.0))) refl
count_at_end (s ∷ seen) p ps vector =
    let less = (each-right (λ later. s.origin < later.origin) seen (p ∷ ps) vector.1).0 in
    rw (lt-ltb s.origin p.origin less) (ap (λ (v : List Counted). s ∷ v) (count_at_end seen p ps vector.2))

pub counts_at_end : (seen pairs : List Counted) → IsVector (seen ++ pairs) → with_counts seen pairs ≡ seen ++ pairs
counts_at_end seen [] vector = sym (append-nil seen)
counts_at_end seen (p ∷ ps) vector =
    ap (λ (v : List Counted). with_counts v ps) (count_at_end seen p ps vector)
    ∙ counts_at_end (seen ++ p ∷ []) ps (rw (append_assoc seen (p ∷ []) ps) vector)
    ∙ append_assoc seen (p ∷ []) ps

pub seen_back : (pairs : List Counted) → FitsSeen pairs → IsBack read_seen (seen_bytes pairs) pairs
seen_back pairs fits rest =
    rw (counted_all_back FitsCounted read_counted counted_bytes counted_back pairs fits.0 fits.2 rest)
    (ap (λ (v : List Counted). let out : Read (List Counted) = record { value = v; rest = rest } in out)
    (counts_at_end [] pairs fits.1))

-- ---- the parts
insert_back : (run : Run) → FitsStamp run.first × FitsParent run.after × FitsText run.text →
    IsBack read_insert (stamp_bytes run.first ++ (parent_bytes run.after ++ text_bytes run.text)) (Insert run)
insert_back run fits rest =
    let stamp = stamp_bytes run.first in
    let parent = parent_bytes run.after in
    let text = text_bytes run.text in
    let with_text : Option Stamp → Read (List ℕ) → Read Part = λ after r. record {
      value = Insert (record { first = run.first; after = after; text = r.value });
      rest = r.rest;
    } in
    let with_parent : Read (Option Stamp) → Read Part = λ r. with_text r.value (read_text r.rest) in
    let with_first : Read Stamp → Read Part = λ r.
    let after = read_parent r.rest in
    let words = read_text after.rest in
    record { value = Insert (record { first = r.value; after = after.value; text = words.value }); rest = words.rest }
    in
    ap read_insert (append_assoc stamp (parent ++ text) rest)
    ∙ ap with_first (stamp_back run.first fits.0 ((parent ++ text) ++ rest))
    ∙ ap (λ (b : List ℕ). with_parent (read_parent b)) (append_assoc parent text rest)
    ∙ ap with_parent (parent_back run.after fits.1 (text ++ rest))
    ∙ ap (with_text run.after) (text_back run.text fits.2 rest)

delete_back : (spans : List Span) → FitsSpans spans →
    IsBack read_delete (number_bytes (length spans) ++ flat_map span_bytes spans) (Delete spans)
delete_back spans fits rest =
    let with : Read (List Span) → Read Part = λ r. record { value = Delete r.value; rest = r.rest } in
    ap with (spans_back spans fits rest)

comment_back : (first last : Stamp) (text : List ℕ) → FitsStamp first × FitsStamp last × FitsText text →
    IsBack read_comment (stamp_bytes first ++ (stamp_bytes last ++ text_bytes text)) (Comment first last text)
comment_back first last text fits rest =
    let a = stamp_bytes first in
    let b = stamp_bytes last in
    let t = text_bytes text in
    let with_text : Stamp → Read (List ℕ) → Read Part = λ s r. record {
      value = Comment first s r.value;
      rest = r.rest;
    } in
    let with_last : Read Stamp → Read Part = λ r. with_text r.value (read_text r.rest) in
    let with_first : Read Stamp → Read Part = λ r.
    let l = read_stamp r.rest in
    let words = read_text l.rest in
    record { value = Comment r.value l.value words.value; rest = words.rest } in
    ap read_comment (append_assoc a (b ++ t) rest)
    ∙ ap with_first (stamp_back first fits.0 ((b ++ t) ++ rest))
    ∙ ap (λ (bs : List ℕ). with_last (read_stamp bs)) (append_assoc b t rest)
    ∙ ap with_last (stamp_back last fits.1 (t ++ rest))
    ∙ ap (with_text last) (text_back text fits.2 rest)

resolve_back : (comment : OpName) → FitsName comment → IsBack read_resolve (name_bytes comment) (Resolve comment)
resolve_back comment fits rest =
    let with : Read OpName → Read Part = λ r. record { value = Resolve r.value; rest = r.rest } in
    ap with (name_back comment fits rest)

-- what stands behind a kind is read by that kind
kind_back : (kind : ℕ) (bytes rest : List ℕ) → kind < 2 ^ 64 → read_part ((number_bytes kind ++ bytes) ++ rest)
    ≡ read_kind kind (bytes ++ rest)
kind_back kind bytes rest lt =
    ap read_part (append_assoc (number_bytes kind) bytes rest)
    ∙ ap (λ (k : ℕ). read_kind k (after_number (number_bytes kind ++ (bytes ++ rest))))
    (number_at_bytes kind (bytes ++ rest) lt)
    ∙ ap (read_kind kind) (after_number_bytes kind (bytes ++ rest))

pub part_back : (part : Part) → FitsPart part → IsBack read_part (part_bytes part) part
part_back (Insert run) fits rest = kind_back 0 _ rest (lit< tt) ∙ insert_back run fits rest
part_back (Delete spans) fits rest = kind_back 1 _ rest (lit< tt) ∙ delete_back spans fits rest
part_back (Comment first last text) fits rest = kind_back 2 _ rest (lit< tt) ∙ comment_back first last text fits rest
part_back (Resolve comment) fits rest = kind_back 3 _ rest (lit< tt) ∙ resolve_back comment fits rest

pub parts_back : (parts : List Part) → length parts < 2 ^ 64 → AllByRecursion FitsPart parts →
    IsBack read_parts (parts_bytes parts) parts
parts_back parts lt fits = counted_all_back FitsPart read_part part_bytes part_back parts lt fits

-- ---- an operation
-- where its author's name stands
pub author_back : (author : ℕ) (op : Op) → author < 2 ^ 64 → IsFitting op → author_place (op_bytes author op) ≡ author
author_back author op lt fits =
    let parts = number_bytes author ++ parts_bytes op.parts in
    ap (λ (r : Read OpName). number_at (read_seen r.rest).rest) (name_back op.name fits.name (seen_bytes op.seen ++ parts))
    ∙ ap (λ (r : Read (List Counted)). number_at r.rest) (seen_back op.seen fits.seen parts)
    ∙ number_at_bytes author (parts_bytes op.parts) lt

pub op_back : (authors : List (List ℕ)) (author : ℕ) (op : Op) → author < 2 ^ 64 → IsFitting op →
    slice_index_or authors author [] ≡ op.author → read_op authors (op_bytes author op) ≡ op
op_back authors author op lt fits there =
    let parts = number_bytes author ++ parts_bytes op.parts in
    let with_seen : OpName → Read (List Counted) → Op = λ name r. record {
      name = name;
      seen = r.value;
      author = slice_index_or authors (number_at r.rest) [];
      parts = (read_parts (after_number r.rest)).value;
    } in
    let with_name : Read OpName → Op = λ r. with_seen r.value (read_seen r.rest) in
    let with_parts : List ℕ → List Part → Op = λ name ps. record {
      name = op.name;
      seen = op.seen;
      author = name;
      parts = ps;
    } in
    ap with_name (name_back op.name fits.name (seen_bytes op.seen ++ parts))
    ∙ ap (with_seen op.name) (seen_back op.seen fits.seen parts)
    ∙ ap (λ (n : ℕ). with_parts (slice_index_or authors n []) (read_parts (after_number parts)).value)
    (number_at_bytes author (parts_bytes op.parts) lt)
    ∙ ap (λ (name : List ℕ). with_parts name (read_parts (after_number parts)).value) there
    ∙ ap (λ (b : List ℕ). with_parts op.author (read_parts b).value) (after_number_bytes author (parts_bytes op.parts))
    ∙ ap (λ (b : List ℕ). with_parts op.author (read_parts b).value) (sym (append-nil (parts_bytes op.parts)))
    ∙ ap (λ (r : Read (List Part)). with_parts op.author r.value) (parts_back op.parts fits.count fits.parts [])
