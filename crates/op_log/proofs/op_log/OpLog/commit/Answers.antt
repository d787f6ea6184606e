use Rattle.std.proofs.Common.{◌≡◌, ◌+◌, ◌++◌, ◌∷◌, [], ℕ, List, Bool, not, if◌then◌else◌, length, refl, sym, ap, ◌∙◌, arith}
use Rattle.op_log.specs.Log.{Log, is_note, is_unsayable}
use Rattle.op_log.proofs.Ranges.{places_push, ready_is}
use Rattle.op_log.proofs.op_log.OpLog.commit.Goals as goal

pub invariant_of-self : goal.invariant_of-self
invariant_of-self c =
    let l = c.self.inside in
    let op = c.args.op.now in
    let ops = l.operations.operations in
    let place = c.len-place.result in
    let there = ready_is l.has_room l.operations.ready op (ap (λ (s : Log). s.ready) c.self.view_is ∙ c.requires) in
    let added = c.commit.ensures.operations op there in
    let at : place ≡ 0 + length ops = omega (arith, c.len-place.ensures) in
    record {
      index = rw added (c.enter.ensures.index ops op refl (sym c.len-place.ensures) c.self.invariant.index);
      empty = c.enter.ensures.empty;
      notes = rw added (c.enter_place.ensures
          ∙ ap (λ (b : Bool). if not b then l.notes.items ++ place ∷ [] else l.notes.items) c.is_edit.ensures
          ∙ ap (λ (qs : List ℕ). if is_note op then qs ++ place ∷ [] else qs) c.self.invariant.notes
          ∙ sym (places_push is_note 0 place ops op at));
      unsayable = rw added (c.enter_place-2.ensures
          ∙ ap (λ (b : Bool). if not b then l.unsayable.items ++ place ∷ [] else l.unsayable.items) c.op_in_v1.ensures
          ∙ ap (λ (qs : List ℕ). if is_unsayable op then qs ++ place ∷ [] else qs) c.self.invariant.unsayable
          ∙ sym (places_push is_unsayable 0 place ops op at));
      room = λ e. absurd (cc);
    }
