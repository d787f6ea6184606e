use Rattle.std.proofs.Common.{sym, ap, ap₂, ◌∙◌, subst, unwrap_or, ℕ, List, Option, ◌-◌, length, max}
use Rattle.op_log.specs.Made.{Made, Makings, more}
use Rattle.op_log.specs.Times.{last_time}
use Rattle.pad_core.specs.Edits.{edit}
use Rattle.pad_core.specs.Machine.Outcome.{writes}
use Rattle.pad_model.specs.declared.op.Op.{Op}
use Rattle.presence.specs.Presence.{Presence}
use Rattle.pad_core.specs.declared.owned.Owned.{Owned}
use Rattle.std.specs.List.{list_any}
use Rattle.rights.specs.declared.right.Right.TheVariants as right
use Rattle.presence.specs.Presence.{has_number}
use Rattle.pad_core.specs.Machine.{IsAdmitted, IsOwned, IsPad, IsWhole, author_outcome, need_of}
use Rattle.pad_core.proofs.Acted.{machine, write_answers, IsPad-granted, IsPad-handed}
use Rattle.pad_core.proofs.Admitted.{admitted_leaver, admitted_visitor, admitted_name, admitted_grant, admitted_hand}
use Rattle.pad_core.proofs.Admitted.{owned_stays}
use Rattle.pad_core.proofs.pad.Pad.author_act.Goals as goal
use Rattle.pad_core.proofs.pad.Pad.author_act.Goals.{in-Some, in-None, in-Some-owned, in-None-owned}

-- another part of a pad, beside the same log and times
whole_with : {o o' : Option Owned} {replica : ℕ} {held : List Op} {p : Presence} {log : List Op} {made : Makings} →
    IsWhole o replica held p log made → IsPad o' replica held p → IsWhole o' replica held p log made
whole_with whole kept = record { kept = kept; timed = whole.timed }

pub invariant_of-self : goal.invariant_of-self
invariant_of-self g c = record {
  kept = record {
    named =
        owned_stays c.self.inside.owned c.self.inside.presence c.join.new.presence c.args.name.now c.args.visit
        c.args.act.now
        (subst (λ m. IsAdmitted m.owned m.presence c.args.name.now c.args.visit c.args.act.now)
        (sym c.self.view_is) c.requires) c.self.invariant.kept.named;
    replica_low = c.self.invariant.kept.replica_low;
    replica_high = c.self.invariant.kept.replica_high;
    waiting = c.self.invariant.kept.waiting;
  };
  timed = c.self.invariant.timed;
}

pub leave-requires : goal.leave-requires
leave-requires g c =
    ap₂ (λ n p. list_any (has_number n) p.present) c.unwrap_or-visit.ensures (ap (λ m. m.presence) c.self.view_is)
    ∙ admitted_leaver c.args.self.now.owned c.args.self.now.presence c.args.name.now c.args.visit c.args.act.now
    c.requires (ap need_of c.in-Leave.is)

pub put_caret-requires : goal.put_caret-requires
put_caret-requires g c =
    ap₂ (λ n p. list_any (has_number n) p.present) c.unwrap_or-visit.ensures (ap (λ m. m.presence) c.self.view_is)
    ∙ admitted_visitor c.args.self.now.owned c.args.self.now.presence c.args.name.now c.args.visit c.args.act.now
    right.Read c.requires (ap need_of c.in-Caret.is)

pub insert-reply-requires-clause-author : goal.insert-reply-requires-clause-author
insert-reply-requires-clause-author g c =
    admitted_name c.args.self.now.owned c.args.self.now.presence c.args.name.now c.args.visit c.args.act.now right.Write
    (subst (λ m. IsOwned m.owned m.presence) c.self.view_is c.self.invariant.kept.named) c.requires
    (ap need_of c.in-Insert.is)

pub delete-reply-requires-clause-author : goal.delete-reply-requires-clause-author
delete-reply-requires-clause-author g c =
    admitted_name c.args.self.now.owned c.args.self.now.presence c.args.name.now c.args.visit c.args.act.now right.Write
    (subst (λ m. IsOwned m.owned m.presence) c.self.view_is c.self.invariant.kept.named) c.requires
    (ap need_of c.in-Delete.is)

pub edit-reply-requires-clause-author : goal.edit-reply-requires-clause-author
edit-reply-requires-clause-author g c =
    admitted_name c.args.self.now.owned c.args.self.now.presence c.args.name.now c.args.visit c.args.act.now right.Write
    (subst (λ m. IsOwned m.owned m.presence) c.self.view_is c.self.invariant.kept.named) c.requires (ap need_of c.in-Edit.is)

pub comment-reply-requires-clause-author : goal.comment-reply-requires-clause-author
comment-reply-requires-clause-author g c =
    admitted_name c.args.self.now.owned c.args.self.now.presence c.args.name.now c.args.visit c.args.act.now
    right.Comment (subst (λ m. IsOwned m.owned m.presence) c.self.view_is c.self.invariant.kept.named) c.requires
    (ap need_of c.in-Comment.is)

pub resolve-reply-requires-clause-author : goal.resolve-reply-requires-clause-author
resolve-reply-requires-clause-author g c =
    admitted_name c.args.self.now.owned c.args.self.now.presence c.args.name.now c.args.visit c.args.act.now
    right.Comment (subst (λ m. IsOwned m.owned m.presence) c.self.view_is c.self.invariant.kept.named) c.requires
    (ap need_of c.in-Resolve.is)

pub invariant_of-self-in-Grant-1 : goal.invariant_of-self-in-Grant-1
invariant_of-self-in-Grant-1 g c =
    elim c.match-self.branch [
      | in-Some w ↦ subst (λ i. IsWhole i.owned i.replica i.held i.presence i.ledger i.made) (sym w.self-inside-is)
          (whole_with c.self.invariant (IsPad-granted c.self.inside.owned c.self.inside.replica c.self.inside.held c.self.inside.presence
          w.in-Some.owned w.len-in-Some.result c.in-Grant.grantee c.in-Grant.right w.grant.new.rights w.grant.result
          c.self.invariant.kept w.in-Some.is
          (admitted_grant c.args.self.now.owned c.args.self.now.presence c.args.name.now c.args.visit c.in-Grant.grantee
          c.in-Grant.right (subst (λ a. IsAdmitted c.args.self.now.owned c.args.self.now.presence c.args.name.now
          c.args.visit a) c.in-Grant.is c.requires)) w.grant.ensures))
      | in-None w ↦ subst (λ i. IsWhole i.owned i.replica i.held i.presence i.ledger i.made)
          (sym w.self-inside-is) c.self.invariant
    ]

pub invariant_of-self-in-Hand-1 : goal.invariant_of-self-in-Hand-1
invariant_of-self-in-Hand-1 g c =
    elim c.match-self-2.branch [
      | in-Some-owned w ↦ subst (λ i. IsWhole i.owned i.replica i.held i.presence i.ledger i.made) (sym w.self-inside-is)
          (whole_with c.self.invariant (IsPad-handed c.self.inside.owned c.self.inside.replica c.self.inside.held c.self.inside.presence
          w.in-Some-owned.owned w.len-in-Some-owned.result c.args.name.now c.in-Hand.author w.hand.new.rights w.hand.result
          c.self.invariant.kept w.in-Some-owned.is
          (admitted_hand c.args.self.now.owned c.args.self.now.presence c.args.name.now c.args.visit c.in-Hand.author
          (subst (λ a. IsAdmitted c.args.self.now.owned c.args.self.now.presence c.args.name.now
          c.args.visit a) c.in-Hand.is c.requires)) w.hand.ensures))
      | in-None-owned w ↦ subst (λ i. IsWhole i.owned i.replica i.held i.presence i.ledger i.made)
          (sym w.self-inside-is) c.self.invariant
    ]

pub returns-in-Edit-clause-answers : goal.returns-in-Edit-clause-answers
returns-in-Edit-clause-answers g c owned e =
    let m = machine c.self.inside.owned c.self.inside.replica c.self.inside.ledger c.self.inside.held
    c.self.inside.presence c.self.inside.clock c.self.inside.made.made in
    write_answers c.self.inside.owned c.self.inside.replica c.self.inside.ledger c.edit-reply.new.ledger
    c.self.inside.held c.self.inside.presence c.self.inside.clock c.self.inside.made.made
    c.fill-in-Edit.new.self.made owned c.args.name.now (unwrap_or c.args.visit 0) c.args.act.now
    (edit c.self.inside.replica c.args.name.now c.in-Edit.rev c.as_slice.result.now c.self.inside.ledger)
    c.edit-reply.result c.args.self.now
    (ap (λ a. author_outcome owned c.args.name.now (unwrap_or c.args.visit 0) a m) c.in-Edit.is
    ∙ ap (λ changes. writes (unwrap_or c.args.visit 0) (edit c.self.inside.replica c.args.name.now c.in-Edit.rev changes c.self.inside.ledger))
    (sym c.as_slice.ensures))
    c.self.invariant.timed.each
    (c.fill-in-Edit.ensures.made
    ∙ ap₂ (λ (done : Made) (n : ℕ). more (n - length done.times) (max c.self.inside.clock (last_time done.times))
    c.unwrap_or-visit.result done) c.edit-reply.ensures.made c.len-in-Edit.ensures.value
    ∙ ap (λ visit. more (length c.edit-reply.new.ledger - length c.self.inside.made.made.times)
    (max c.self.inside.clock (last_time c.self.inside.made.made.times)) visit c.self.inside.made.made)
    c.unwrap_or-visit.ensures)
    c.edit-reply.ensures.answer c.self.view_is e
