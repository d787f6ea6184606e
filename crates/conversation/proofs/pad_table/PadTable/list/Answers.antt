use Rattle.std.proofs.Common.{inl, ◌++◌, ◌+◌, ◌∷◌, [], sym, ap, ◌∙◌, append-nil}
use Rattle.std.proofs.lemmas.List.{length_push}
use Rattle.server_core.proofs.Named.{each-append}
use Rattle.shared_pads.specs.LockedPad.{CanBe}
use Rattle.pad_core.specs.Listing.{one_or_none}
use Rattle.pad_core.proofs.Exits.{passed_on}
use Rattle.conversation.proofs.RowListings.{told_more}
use Rattle.conversation.proofs.pad_table.PadTable.list.Goals.{in-Some+in_ok-push, in_default}
use Rattle.conversation.proofs.pad_table.PadTable.list.Goals as goal

pub loop-cell-preserved : goal.loop-cell-preserved
loop-cell-preserved g c =
    let so = c.loop-cell.invariant in
    let state = c.in_ok-listed.ensures in
    let more = told_more c.args.who.now so.states state.0 c.loop-cell.pads c.in_ok-listed.field-0 so.told state.2 in
    record {
      states = so.states ++ state.0 ∷ [];
      count = length_push so.states state.0 ∙ ap (λ n. n + 1) so.count;
      can = each-append CanBe so.states state.0 so.can state.1;
      told = elim c.match-branch-2.branch [
        | in-Some+in_ok-push w ↦ w.pads-is ∙ w.in_ok-push.ensures.ok
            ∙ ap (λ t. c.loop-cell.pads ++ one_or_none t) (sym w.in-Some.is) ∙ more
        | in_default w ↦ w.pads-is ∙ sym (append-nil c.loop-cell.pads)
            ∙ ap (λ t. c.loop-cell.pads ++ one_or_none t) (sym w.in_default.is) ∙ more
      ];
    }

pub returns-in_err-push : goal.returns-in_err-push
returns-in_err-push g c =
    inl (passed_on c.from_residual-in_err-push.result c.from_residual-in_err-push.ensures.1)
