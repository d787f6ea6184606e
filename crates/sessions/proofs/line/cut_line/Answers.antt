use Rattle.std.proofs.Common.{◌+◌, ◌∷◌, List, ℕ, take, drop, eqb, ap, sym, ◌∙◌}
use Rattle.std.specs.Str.Lines.{lines, lines_of_parts}
use Rattle.std.proofs.lemmas.List.{take_rest}
use Rattle.sessions.proofs.Lines.{split_found, split_absent, line_before, last_line}
use Rattle.sessions.proofs.line.cut_line.Goals as goal

pub returns-in-Some-clause-lines : goal.returns-in-Some-clause-lines
returns-in-Some-clause-lines c =
    let bytes = c.args.bytes.now in
    let end = c.in-Some.end in
    ap lines_of_parts (split_found (λ b. eqb b 10) bytes end (sym c.place_of.ensures ∙ c.in-Some.is))
    ∙ line_before (λ b. eqb b 10) (take end bytes) (drop (end + 1) bytes)
    ∙ ap (λ (line : List ℕ). line ∷ lines (drop (end + 1) bytes)) (sym c.without_return.ensures)
    ∙ ap (λ (rest : List ℕ). c.without_return.result.now ∷ lines rest) (sym (take_rest bytes (end + 1)))

pub returns-in-None-clause-lines : goal.returns-in-None-clause-lines
returns-in-None-clause-lines c =
    ap lines_of_parts (split_absent (λ b. eqb b 10) c.args.bytes.now (sym c.place_of.ensures ∙ c.in-None.is))
    ∙ last_line c.args.bytes.now c.requires
