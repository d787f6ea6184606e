use Rattle.std.proofs.Common.{◌+◌, ◌∷◌, List, ℕ, take, ap, sym, ◌∙◌}
use Rattle.std.proofs.lemmas.List.{take_rest}
use Rattle.pad_accounts.specs.Lines.{raw_lines}
use Rattle.pad_accounts.proofs.FirstLine.{line_found, line_absent}
use Rattle.pad_accounts.proofs.lines.cut_line.Goals as goal

pub returns-in-Some-clause-lines : goal.returns-in-Some-clause-lines
returns-in-Some-clause-lines c =
    let bytes = c.args.bytes.now in
    let end = c.in-Some.end in
    line_found bytes end (sym c.place_of.ensures ∙ c.in-Some.is)
    ∙ ap (λ (rest : List ℕ). take (end + 1) bytes ∷ raw_lines rest) (sym (take_rest bytes (end + 1)))

pub returns-in-None-clause-lines : goal.returns-in-None-clause-lines
returns-in-None-clause-lines c = line_absent c.args.bytes.now c.requires (sym c.place_of.ensures ∙ c.in-None.is)
