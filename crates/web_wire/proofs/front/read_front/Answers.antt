use Rattle.std.proofs.Common.{Ok, ap, refl}
use Rattle.web_wire.proofs.Fronts.{role_left, whole_front}
use Rattle.web_wire.proofs.front.read_front.Goals as goal

pub returns-in_ok-heard-in-Complete-clause-reads : goal.returns-in_ok-heard-in-Complete-clause-reads
returns-in_ok-heard-in-Complete-clause-reads c =
    let said = c.in_ok-heard-in-Complete.ensures in
    let read = c.in_ok-read.ensures in
    whole_front _ _ c.in-Complete.step c.in_ok-heard-in-Complete.heard c.requires (rw c.in-Complete.is at read.returns)
    read.leaves (rw c.in-Complete.is at read.keeps_rest) said.heard (λ l. said.line (ap Ok l)) (λ l. said.is_line (ap Ok l)) (λ no. said.other (λ is. no (cc is)))

pub returns-in_ok-heard-in-Complete-clause-role : goal.returns-in_ok-heard-in-Complete-clause-role
returns-in_ok-heard-in-Complete-clause-role c =
    let read = c.in_ok-read.ensures in
    role_left _ _ _ _ _ _ refl read.leaves c.requires

pub returns-in_err-heard-in-Complete-clause-role : goal.returns-in_err-heard-in-Complete-clause-role
returns-in_err-heard-in-Complete-clause-role c =
    let read = c.in_ok-read.ensures in
    role_left _ _ _ _ _ _ refl read.leaves c.requires
