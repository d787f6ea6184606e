-- What a crash leaves of a pad's file leads to a restarted state that the pad had.
use Rattle.std.proofs.Common.{◌≡◌, ℕ, zero, suc, ◌+◌, ◌≤◌, Bool, List, [], ◌∷◌, ◌++◌, length, take, fold}
use Rattle.std.proofs.Common.{bytes_eq, Option, Some, Result, Ok, Err, refl, sym, ap, ◌∙◌, subst, arith, append-nil}
use Rattle.std.proofs.Common.{append_assoc}
use Rattle.std.specs.List.{AllByRecursion, list_any}
use Rattle.std.proofs.lemmas.Bool.{cond-true, cond-false}
use Rattle.std.proofs.lemmas.List.{length-append}
use Rattle.std.proofs.lemmas.Slice.Eq.{bytes_eq-Decides}
use Rattle.pad_model.specs.declared.refusal.Refusal.{Refusal}
use Rattle.pad_core.specs.Machine.{Machine}
use Rattle.store_records.specs.Laws.{Had, Life, restarted_by}
use Rattle.store_records.specs.Laws.Life.{starts_again}
use Rattle.store_records.specs.Records.{rebuilt, replay, replay_all, replayed, unnamed}
use Rattle.store_records.specs.declared.kept_record.Record.{Record}
use Rattle.store_records.specs.declared.kept_record.Record.TheVariants.{Named}
use Rattle.store_records.proofs.Fronts.{front as records_front}
use Rattle.store_format.specs.Batches.{begins_batch}
use Rattle.store_format.specs.Entries.{entry_said}
use Rattle.store_format.specs.Files.{Read, begun, behind_line, by_text, entered, file_read, if_named, lines_read, pad_read}
use Rattle.store_format.specs.Files.{read_lines, read_on, said_at, text_read, torn_at, torn_front, unless_refused}
use Rattle.store_format.specs.Laws.{AreOf, Disk, HasSynced, IsFile, IsLine, IsTorn, MayLeave, Say, file_of, last_sum, records_in}
use Rattle.store_format.specs.Laws.MayLeave.{cut, torn}
use Rattle.store_format.specs.Lines.{bytes_of, line_text, lines_behind, sum_after, whole_lines}
use Rattle.store_format.specs.declared.entry.StoreLine.{StoreLine}
use Rattle.store_format.specs.declared.entry.StoreLine.TheVariants as entry
use Rattle.store_format.specs.declared.header.Header.{Header}
use Rattle.store_format.specs.declared.reader.Damage.{Damage}
use Rattle.store_format.specs.declared.reader.Damage.TheVariants.{Empty, OtherPad, Unlinked}
use Rattle.store_format.proofs.Names.{is_empty, is_taken}
use Rattle.store_format.proofs.Fronts.{front, text_found, text_line, whole_first}

front_length : (n : ℕ) (bytes : List ℕ) → length (take n bytes) ≤ n
front_length zero bytes = omega arith
front_length (suc n) [] = omega arith
front_length (suc n) (b ∷ bytes) = let h = front_length n bytes in omega (arith, h)

-- the first texts have the meaning of the first entries
say_front : (n : ℕ) (says : List StoreLine) (texts : List (List ℕ)) → Say says texts → Say (take n says) (take n texts)
say_front zero says texts h = tt
say_front (suc n) [] [] h = tt
say_front (suc n) [] (text ∷ texts) h = absurd h
say_front (suc n) (said ∷ says) [] h = absurd h
say_front (suc n) (said ∷ says) (text ∷ texts) (plain, is, rest) = (plain, is, say_front n says texts rest)

plain_texts : (says : List StoreLine) (texts : List (List ℕ)) → Say says texts → AllByRecursion IsLine texts
plain_texts [] [] h = tt
plain_texts [] (text ∷ texts) h = absurd h
plain_texts (said ∷ says) [] h = absurd h
plain_texts (said ∷ says) (text ∷ texts) (plain, is, rest) = (plain, plain_texts says texts rest)

are_front : (n : ℕ) (name : List ℕ) (says : List StoreLine) → AreOf name says → AreOf name (take n says)
are_front zero name says h = tt
are_front (suc n) name [] h = tt
are_front (suc n) name (entry.Header header ∷ says) (is, rest) = (is, are_front n name says rest)
are_front (suc n) name (entry.Record kept ∷ says) h = are_front n name says h

-- the records among the first entries are the first records
records_of_front : (n : ℕ) (says : List StoreLine) → take (length (records_in (take n says))) (records_in says)
    ≡ records_in (take n says)
records_of_front zero says = refl
records_of_front (suc n) [] = refl
records_of_front (suc n) (entry.Header header ∷ says) = records_of_front n says
records_of_front (suc n) (entry.Record kept ∷ says) = ap (λ (rs : List Record). kept ∷ rs) (records_of_front n says)

refused_stays : (records : List Record) (e : Refusal) → fold replayed (Err e) records ≡ Err e
refused_stays [] e = refl
refused_stays (x ∷ records) e = refused_stays records e

err_is_no_ok : (e : Refusal) (m : Machine) → (let r : Result Machine Refusal = Err e in r) ≡ Ok m → ⊥
err_is_no_ok e m h = cc

-- what was read has this pad, and this many bytes
abbrev Leads : Result Read Damage → Machine → ℕ → Type 0
Leads result m whole = (read : Read) × (read.pad ≡ m) × (read.whole ≡ whole) × (result ≡ Ok read)

-- nothing more is read of lines that are not further ones
torn_stays : (number : ℕ) (name : List ℕ) (before : Read) (rest : List (List ℕ)) → IsTorn before.sum rest →
    read_lines number name before rest ≡ Ok before
torn_stays number name before [] h = refl
torn_stays number name before (line ∷ lines) (unlinked, none) =
    ap (by_text (torn_at number before (line ∷ lines)) (λ text. read_on (λ next. read_lines (suc number) name next lines)
    (text_read number name (behind_line before line text) text))) unlinked
    ∙ cond-false (list_any begins_batch (line ∷ lines)) (Err (Unlinked number)) (Ok before) none

-- one more line with this meaning is read
line_leads : (number : ℕ) (name : List ℕ) (before : Read) (text : List ℕ) (said : StoreLine) (lines : List (List ℕ)) →
    entry_said text ≡ Some said → read_lines number name before (line_text before.sum text ∷ lines)
    ≡ read_on (λ next. read_lines (suc number) name next lines)
    (entered number name (behind_line before (line_text before.sum text) text) said)
line_leads number name before text said lines is =
    ap (by_text (torn_at number before (line_text before.sum text ∷ lines)) (λ t. read_on
    (λ next. read_lines (suc number) name next lines)
    (text_read number name (behind_line before (line_text before.sum text) t) t))) (text_found before.sum text)
    ∙ ap (λ (o : Option StoreLine). read_on (λ next. read_lines (suc number) name next lines)
    (read_on (entered number name (behind_line before (line_text before.sum text) text)) (said_at number o))) is

-- the bytes of one more line
one_more : (whole : ℕ) (line : List ℕ) (lines : List (List ℕ)) → whole + suc (length line) + length (bytes_of lines)
    ≡ whole + length (bytes_of (line ∷ lines))
one_more whole line lines = at (length-append line (10 ∷ bytes_of lines))
  where
    at : length (line ++ 10 ∷ bytes_of lines) ≡ length line + suc (length (bytes_of lines)) → whole + suc (length line)
        + length (bytes_of lines) ≡ whole + length (line ++ 10 ∷ bytes_of lines)
    at h = omega (arith, h)

first_one : (line : List ℕ) (lines : List (List ℕ)) → suc (length line) + length (bytes_of lines)
    ≡ length (bytes_of (line ∷ lines))
first_one line lines = at (length-append line (10 ∷ bytes_of lines))
  where
    at : length (line ++ 10 ∷ bytes_of lines) ≡ length line + suc (length (bytes_of lines)) → suc (length line)
        + length (bytes_of lines) ≡ length (line ++ 10 ∷ bytes_of lines)
    at h = omega (arith, h)

-- lines with headers of this pad and records lead where the records lead
entries_read : (number : ℕ) (name : List ℕ) (says : List StoreLine) (texts rest : List (List ℕ)) (before : Read)
    (m : Machine) → Say says texts → AreOf name says → replay_all (records_in says) before.pad ≡ Ok m →
    IsTorn (last_sum before.sum texts) rest →
    Leads (read_lines number name before (lines_behind before.sum texts ++ rest)) m
    (before.whole + length (bytes_of (lines_behind before.sum texts)))
entries_read number name [] [] rest before m says are leads none = (
  before,
  same leads,
  omega arith,
  torn_stays number name before rest none,
)
  where
    same : (let r : Result Machine Refusal = Ok before.pad in r) ≡ Ok m → before.pad ≡ m
    same e = cc
entries_read number name [] (text ∷ texts) rest before m says are leads none = absurd says
entries_read number name (said ∷ more) [] rest before m says are leads none = absurd says
entries_read number name (entry.Header header ∷ more) (text ∷ texts) rest before m (plain, is, says) (called, are) leads
    none =
    subst (λ (r : Result Read Damage). Leads r m (before.whole + length (bytes_of (lines_behind before.sum (text ∷ texts)))))
    (sym
    (line_leads number name before text (entry.Header header) (lines_behind (sum_after before.sum text) texts ++ rest) is
    ∙ ap (read_on (λ read. read_lines (suc number) name read (lines_behind (sum_after before.sum text) texts ++ rest)))
    (cond-true (bytes_eq header.pad name) (Ok next) (Err OtherPad) ((bytes_eq-Decides header.pad name).1 called))))
    (subst (Leads (read_lines (suc number) name next (lines_behind next.sum texts ++ rest)) m)
    (one_more before.whole (line_text before.sum text) (lines_behind next.sum texts))
    (entries_read (suc number) name more texts rest next m says are leads none))
  where
    next : Read
    next = record (behind_line before (line_text before.sum text) text) { header = header }
entries_read number name (entry.Record kept ∷ more) (text ∷ texts) rest before m (plain, is, says) are leads none =
    subst (λ (r : Result Read Damage). Leads r m (before.whole + length (bytes_of (lines_behind before.sum (text ∷ texts)))))
    (sym (line_leads number name before text (entry.Record kept) (lines_behind (sum_after before.sum text) texts ++ rest)
    is))
    (at (replay kept before.pad) leads (λ pad ok. subst
    (Leads (read_lines (suc number) name (next pad) (lines_behind (sum_after before.sum text) texts ++ rest)) m)
    (one_more before.whole (line_text before.sum text) (lines_behind (sum_after before.sum text) texts))
    (entries_read (suc number) name more texts rest (next pad) m says are ok none)))
  where
    next : Machine → Read
    next pad = record (behind_line before (line_text before.sum text) text) { pad = pad }

    Goal : Result Read Damage → Type 0
    Goal r = Leads (read_on (λ read. read_lines (suc number) name read
        (lines_behind (sum_after before.sum text) texts ++ rest)) r) m
        (before.whole + length (bytes_of (lines_behind before.sum (text ∷ texts))))

    at : (done : Result (Unit {0}) Refusal × Machine) →
        fold replayed (Rattle.store_records.specs.Records.unless_refused done) (records_in more) ≡ Ok m →
        ((pad : Machine) → replay_all (records_in more) pad ≡ Ok m → Goal (Ok (next pad))) →
        Goal (unless_refused number (behind_line before (line_text before.sum text) text) done)
    at (Ok done, pad) ok on = on pad ok
    at (Err e, pad) ok on = absurd (err_is_no_ok e m (sym (refused_stays (records_in more) e) ∙ ok))

-- the whole lines of a file with bytes after its lines
pub with_tail : (before : List ℕ) (texts : List (List ℕ)) (tail : List ℕ) → AllByRecursion IsLine texts →
    whole_lines (bytes_of (lines_behind before texts) ++ tail) ≡ lines_behind before texts ++ whole_lines tail
with_tail before [] tail h = refl
with_tail before (text ∷ texts) tail (plain, h) =
    ap whole_lines (append_assoc (line_text before text) (10 ∷ bytes_of (lines_behind (sum_after before text) texts)) tail)
    ∙ (whole_first (line_text before text) (bytes_of (lines_behind (sum_after before text) texts) ++ tail)
    (text_line before text plain)
    ∙ ap (λ (ls : List (List ℕ)). line_text before text ∷ ls) (with_tail (sum_after before text) texts tail h))

front_plain : (n : ℕ) (texts : List (List ℕ)) → AllByRecursion IsLine texts → AllByRecursion IsLine (take n texts)
front_plain zero texts h = tt
front_plain (suc n) [] h = tt
front_plain (suc n) (text ∷ texts) (plain, h) = (plain, front_plain n texts h)

-- the lines that a crash left, and what follows them
abbrev LeftLines : Disk → List (List ℕ) → List ℕ → Type 0
LeftLines disk texts bytes =
    (lines : ℕ) × (rest : List (List ℕ)) × (1 ≤ lines) × HasSynced disk texts lines
    × (whole_lines bytes ≡ lines_behind [] (take lines texts) ++ rest) × IsTorn (last_sum [] (take lines texts)) rest

first_left : (texts : List (List ℕ)) (n : ℕ) (count : ℕ) → 1 ≤ length texts → length (file_of (take 1 texts)) ≤ n →
    ((whole : ℕ) → whole ≤ length texts → length (file_of (take whole texts)) ≤ n → whole ≤ count) → 1 ≤ count
first_left texts n count some far least = least 1 some far

left_lines : (texts : List (List ℕ)) (disk : Disk) (bytes : List ℕ) → 1 ≤ length texts → AllByRecursion IsLine texts →
    disk.written ≡ file_of texts → MayLeave disk texts bytes → LeftLines disk texts bytes
left_lines texts disk bytes some plain written (torn lines tail synced first is none) = (
  lines,
  whole_lines tail,
  first,
  synced,
  ap whole_lines is ∙ with_tail [] (take lines texts) tail (front_plain lines texts plain),
  none,
)
left_lines texts disk bytes some plain written (cut left synced is first) = at (front [] texts left plain)
  where
    far : length (file_of (take 1 texts)) ≤ left
    far = let cut_length : length bytes ≤ left = subst (λ (bs : List ℕ). length bs ≤ left) (sym is)
        (front_length left disk.written) in omega (arith, first, cut_length)

    at : ((count : ℕ) × (whole_lines (take left (file_of texts)) ≡ lines_behind [] (take count texts))
        × ((whole : ℕ) → whole ≤ length texts → length (file_of (take whole texts)) ≤ left → whole ≤ count)) →
        LeftLines disk texts bytes
    at (count, lines, least) = (
      count,
      [],
      first_left texts left count some far least,
      λ whole few short. least whole few (reach (length (file_of (take whole texts))) short synced),
      ap whole_lines (is ∙ ap (take left) written) ∙ (lines ∙ sym (append-nil (lines_behind [] (take count texts)))),
      tt,
    )
      where
        reach : (n : ℕ) → n ≤ disk.synced → disk.synced ≤ left → n ≤ left
        reach n a b = omega arith

-- the first line is a header, and what follows it is read
file_again : (number most : ℕ) (name : List ℕ) (header : Header) (says : List StoreLine) (text : List ℕ)
    (texts rest : List (List ℕ)) (m : Machine) →
    entry_said text ≡ Some (entry.Header header) → header.pad ≡ name → AreOf name says → Say says texts →
    rebuilt number most (records_in says) ≡ Ok m → IsTorn (last_sum [] (text ∷ texts)) rest →
    Leads (file_read number most name (lines_behind [] (text ∷ texts) ++ rest)) m (length (file_of (text ∷ texts)))
file_again number most name header says text texts rest m is called are says_so leads none =
    subst (λ (r : Result Read Damage). Leads r m (length (file_of (text ∷ texts))))
    (sym (ap (read_on on)
    (ap (by_text (Err (torn_front line all)) (λ t. read_on (begun number most name line (sum_after [] t))
    (said_at 1 (entry_said t)))) (text_found [] text)
    ∙ (ap (λ (o : Option StoreLine). read_on (begun number most name line (sum_after [] text)) (said_at 1 o)) is
    ∙ cond-true (bytes_eq header.pad name) (Ok first) (Err OtherPad) ((bytes_eq-Decides header.pad name).1 called)))))
    (subst (Leads (on first) m) (first_one line (lines_behind (sum_after [] text) texts))
    (entries_read 2 name says texts rest first m says_so are leads none))
  where
    line : List ℕ
    line = line_text [] text

    all : List (List ℕ)
    all = line ∷ (lines_behind (sum_after [] text) texts ++ rest)

    on : Read → Result Read Damage
    on read = read_lines 2 name read (lines_behind (sum_after [] text) texts ++ rest)

    first : Read
    first = record { pad = unnamed number most; header = header; sum = sum_after [] text; whole = suc (length line) }

-- the file's bytes lead to what was read of its lines, if the pad has the name
pub named_read : (replica present : ℕ) (name bytes : List ℕ) (read : Read) → file_read replica present name (whole_lines bytes)
    ≡ Ok read → pad_read replica present name bytes ≡ if_named name read
named_read replica present name bytes read is = at (whole_lines bytes) is
  where
    no_line : (let r : Result Read Damage = Err Empty in r) ≡ Ok read → ⊥
    no_line e = cc

    at : (lines : List (List ℕ)) → file_read replica present name lines ≡ Ok read → lines_read replica present name bytes lines
        ≡ if_named name read
    at [] e = absurd (no_line e)
    at (first ∷ lines) e = ap (read_on (if_named name)) e

-- what a server with these numbers reads of what is left
abbrev Again : ℕ → ℕ → List ℕ → List ℕ → List StoreLine → List (List ℕ) → Machine → Type 0
Again number most name bytes says texts had =
    (read : Read) × (read.pad ≡ restarted_by number most had) × (read.whole ≡ length (file_of texts))
    × (file_read number most name (whole_lines bytes) ≡ Ok read) × (pad_read number most name bytes ≡ if_named name read)
    × ((owner : List ℕ) (visits : Bool) (more : List Record) → records_in says ≡ Named name owner visits ∷ more → pad_read number most name bytes
    ≡ Ok read)
    × (records_in says ≡ [] → pad_read number most name bytes ≡ Err Empty)
    × Life number most (records_in says) read.pad × IsFile name says

-- and the state in which the pad was then
abbrev AllAgain : ℕ → ℕ → List ℕ → List StoreLine → Machine → List (List ℕ) → Disk → List ℕ → Type 0
AllAgain replica present name says m texts disk bytes =
    (lines : ℕ) × HasSynced disk texts lines
    × (had : Machine) × Had replica present (records_in says) m (records_in (take lines says)) had
    × ((number most : ℕ) → Again number most name bytes (take lines says) (take lines texts) had)

read_again : (number most : ℕ) (name bytes : List ℕ) (header : Header) (says : List StoreLine) (text : List ℕ)
    (texts rest : List (List ℕ)) (had : Machine) →
    entry_said text ≡ Some (entry.Header header) → header.pad ≡ name → AreOf name says → Say says texts →
    whole_lines bytes ≡ lines_behind [] (text ∷ texts) ++ rest → IsTorn (last_sum [] (text ∷ texts)) rest →
    rebuilt number most (records_in says) ≡ Ok (restarted_by number most had) →
    Life number most (records_in says) (restarted_by number most had) →
    Again number most name bytes (entry.Header header ∷ says) (text ∷ texts) had
read_again number most name bytes header says text texts rest had is called are says_so lines none leads life =
    at (file_again number most name header says text texts rest (restarted_by number most had) is called are says_so leads none)
  where
    at : Leads (file_read number most name (lines_behind [] (text ∷ texts) ++ rest)) (restarted_by number most had)
        (length (file_of (text ∷ texts))) →
        Again number most name bytes (entry.Header header ∷ says) (text ∷ texts) had
    at (read, pad, whole, found) = (
      read,
      pad,
      whole,
      ap (file_read number most name) lines ∙ found,
      named_read number most name bytes read (ap (file_read number most name) lines ∙ found),
      λ owner visits more first. named_read number most name bytes read (ap (file_read number most name) lines ∙ found)
          ∙ is_taken number most name owner visits (records_in says) more read (leads ∙ ap Ok (sym pad)) first,
      λ none_left. named_read number most name bytes read (ap (file_read number most name) lines ∙ found)
          ∙ is_empty number most name (records_in says) read (leads ∙ ap Ok (sym pad)) none_left,
      subst (Life number most (records_in says)) (sym pad) life,
      (called, are),
    )

pub left_again : (replica present : ℕ) (name : List ℕ) (says : List StoreLine) (m : Machine) (texts : List (List ℕ)) (disk : Disk)
    (bytes : List ℕ) →
    Life replica present (records_in says) m → IsFile name says → Say says texts → disk.written ≡ file_of texts →
    MayLeave disk texts bytes → AllAgain replica present name says m texts disk bytes
left_again replica present name [] m texts disk bytes life file says written may = absurd file
left_again replica present name (entry.Record kept ∷ more) m texts disk bytes life file says written may = absurd file
left_again replica present name (entry.Header header ∷ more) m [] disk bytes life file says written may = absurd says
left_again replica present name (entry.Header header ∷ more) m (text ∷ texts) disk bytes life (called, are) (plain, is, says)
    written may =
    at (left_lines (text ∷ texts) disk bytes (omega arith) (plain, plain_texts more texts says) written may)
  where
    none_left : 1 ≤ 0 → ⊥
    none_left h = omega arith

    at : LeftLines disk (text ∷ texts) bytes → AllAgain replica present name (entry.Header header ∷ more) m (text ∷ texts) disk
        bytes
    at (zero, rest, some, synced, lines, none) = absurd (none_left some)
    at (suc k, rest, some, synced, lines, none) =
        found (records_front replica present (records_in more) m (length (records_in (take k more))) life)
      where
        found : ((had : Machine)
            × Had replica present (records_in more) m (take (length (records_in (take k more))) (records_in more)) had
            × ((number most : ℕ) → rebuilt number most (take (length (records_in (take k more))) (records_in more))
            ≡ Ok (restarted_by number most had))) →
            AllAgain replica present name (entry.Header header ∷ more) m (text ∷ texts) disk bytes
        found (had, there, leads) = (
          suc k,
          synced,
          had,
          subst (λ (rs : List Record). Had replica present (records_in more) m rs had) (records_of_front k more) there,
          λ number most. read_again number most name bytes header (take k more) text (take k texts) rest had is called
              (are_front k name more are) (say_front k more texts says) lines none
              (subst (λ (rs : List Record). rebuilt number most rs ≡ Ok (restarted_by number most had)) (records_of_front k more)
              (leads number most))
              (subst (λ (rs : List Record). Life number most rs (restarted_by number most had)) (records_of_front k more)
              (starts_again replica present (records_in more) m (length (records_in (take k more))) number most
              (restarted_by number most had) life (leads number most))),
        )
