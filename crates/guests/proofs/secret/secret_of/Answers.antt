use Rattle.std.proofs.Common.{sym, ◌∙◌, eqb}
use Rattle.guests.proofs.Made.{found_before, absent_before}
use Rattle.guests.proofs.secret.secret_of.Goals as goal

pub returns-in-Some : goal.returns-in-Some
returns-in-Some c =
    sym (found_before (λ b. eqb b 46) c.args.token.now c.in-Some.end (sym c.place_of_point.ensures ∙ c.in-Some.is))

pub returns-in-None : goal.returns-in-None
returns-in-None c = sym (absent_before (λ b. eqb b 46) c.args.token.now (sym c.place_of_point.ensures ∙ c.in-None.is))
