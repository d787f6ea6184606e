-- What is added to a pad's file and written stays its lines, in their order.
use Rattle.std.proofs.Common.{◌≡◌, ℕ, List, [], ◌∷◌, ◌++◌, string_bytes, refl, sym, ap, ◌∙◌}
use Rattle.std.proofs.lemmas.List.{append-nil, append_assoc}
use Rattle.store_format.specs.Laws.{file_of, last_sum}
use Rattle.store_format.specs.Lines.{bytes_of, line_text, lines_behind, sum_after}
use Rattle.store_format.specs.Writing.{Adds, AreLinesOf, IsWritten, WritingLaw}
use Rattle.store_format.specs.declared.writer.PadWriter.{PadWriter}

-- the lines of more texts follow those of the first, linked to the last of these
lines_go_on : (sum : List ℕ) (texts more : List (List ℕ)) → bytes_of (lines_behind sum (texts ++ more))
    ≡ bytes_of (lines_behind sum texts) ++ bytes_of (lines_behind (last_sum sum texts) more)
lines_go_on sum [] more = refl
lines_go_on sum (text ∷ texts) more =
    ap (λ rest. line_text sum text ++ 10 ∷ rest) (lines_go_on (sum_after sum text) texts more)
    ∙ sym (append_assoc (line_text sum text) (10 ∷ bytes_of (lines_behind (sum_after sum text) texts))
    (bytes_of (lines_behind (last_sum (sum_after sum text) texts) more)))

last_goes_on : (sum : List ℕ) (texts more : List (List ℕ)) → last_sum sum (texts ++ more) ≡ last_sum (last_sum sum texts) more
last_goes_on sum [] more = refl
last_goes_on sum (text ∷ texts) more = last_goes_on (sum_after sum text) texts more

-- what is added by nothing is nothing
pub adds_nothing : (writer : PadWriter) → Adds [] writer writer
adds_nothing writer = record { waiting = sym (append-nil (string_bytes writer.waiting)); sum = refl }

-- what is added behind what was added is both, one behind the other
pub adds_go_on : (texts more : List (List ℕ)) (old mid new : PadWriter) → Adds texts old mid → Adds more mid new →
    Adds (texts ++ more) old new
adds_go_on texts more old mid new first then_ = record { waiting = waiting; sum = sum }
  where
    behind : List ℕ → List ℕ
    behind s = bytes_of (lines_behind s more)

    waiting : string_bytes new.waiting
        ≡ string_bytes old.waiting ++ bytes_of (lines_behind (string_bytes old.sum) (texts ++ more))
    waiting =
        then_.waiting
        ∙ ap (λ w. w ++ behind (string_bytes mid.sum)) first.waiting
        ∙ ap (λ s. (string_bytes old.waiting ++ bytes_of (lines_behind (string_bytes old.sum) texts)) ++ behind s) first.sum
        ∙ append_assoc (string_bytes old.waiting) (bytes_of (lines_behind (string_bytes old.sum) texts))
        (behind (last_sum (string_bytes old.sum) texts))
        ∙ ap (λ rest. string_bytes old.waiting ++ rest) (sym (lines_go_on (string_bytes old.sum) texts more))

    sum : string_bytes new.sum ≡ last_sum (string_bytes old.sum) (texts ++ more)
    sum = then_.sum ∙ ap (λ s. last_sum s more) first.sum ∙ sym (last_goes_on (string_bytes old.sum) texts more)

begun : (writer : PadWriter) → string_bytes writer.waiting ≡ [] → string_bytes writer.sum ≡ [] → AreLinesOf [] [] writer
begun writer waiting sum = record { lines = waiting; sum = sum }

added : (texts more : List (List ℕ)) (file : List ℕ) (old new : PadWriter) → AreLinesOf texts file old → Adds more old new →
    AreLinesOf (texts ++ more) file new
added texts more file old new are adds = record { lines = lines; sum = sum }
  where
    before : string_bytes old.sum ≡ last_sum [] texts
    before = are.sum

    behind : List ℕ → List ℕ
    behind s = bytes_of (lines_behind s more)

    lines : file ++ string_bytes new.waiting ≡ file_of (texts ++ more)
    lines =
        ap (λ w. file ++ w) adds.waiting
        ∙ sym (append_assoc file (string_bytes old.waiting) (behind (string_bytes old.sum)))
        ∙ ap (λ front. front ++ behind (string_bytes old.sum)) are.lines
        ∙ ap (λ s. file_of texts ++ behind s) before
        ∙ sym (lines_go_on [] texts more)

    sum : string_bytes new.sum ≡ last_sum [] (texts ++ more)
    sum = adds.sum ∙ ap (λ s. last_sum s more) before ∙ sym (last_goes_on [] texts more)

written : (texts : List (List ℕ)) (file : List ℕ) (old new : PadWriter) → AreLinesOf texts file old → IsWritten old new →
    AreLinesOf texts (file ++ string_bytes old.waiting) new × (file ++ string_bytes old.waiting ≡ file_of texts)
written texts file old new are has = (record { lines = lines; sum = sum }, are.lines)
  where
    grown : List ℕ
    grown = file ++ string_bytes old.waiting

    lines : grown ++ string_bytes new.waiting ≡ file_of texts
    lines = ap (λ w. grown ++ w) has.waiting ∙ append-nil grown ∙ are.lines

    sum : string_bytes new.sum ≡ last_sum [] texts
    sum = ap string_bytes has.sum ∙ are.sum

-- the law of what is added and written
pub writing : WritingLaw
writing = record { begun = begun; added = added; written = written }
