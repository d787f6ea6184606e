use Rattle.std.proofs.Common.{◌≡◌, refl, Some, subst, sym, ◌∙◌, arith}
use Rattle.std.specs.Option.{IsSome, IfSome}
use Rattle.std.specs.FinMap.{get, insert}
use Rattle.ident_index.specs.Index.{IsBlock}
use Rattle.ident_index.specs.View.{index_of}
use Rattle.ident_index.specs.declared.place.BlockEntry.{BlockEntry}
use Rattle.ident_index.proofs.Kept.{get-kept, kept_insert, there}
use Rattle.ident_index.proofs.Sound.{sound_change}
use Rattle.ident_index.proofs.index.IdentIndex.relabel.Goals as goal
use Rattle.ident_index.proofs.index.IdentIndex.relabel.Goals.{in-Some, in_default}

-- the entry that was there, and the index with its label changed
relabelled : (c : goal.Joined-get_mut) → (old : BlockEntry) × (get c.args.self.now c.args.first ≡ Some old)
    × (index_of c.match-get_mut.self-inside.entries.entries ≡ insert c.args.self.now c.args.first
    (record old { label = c.args.label }))
relabelled c = elim c.match-get_mut.branch [
  | in-Some w ↦
      let old = w.in-Some.entry.now in
      let e : BlockEntry = record old { label = c.args.label } in
      let some = subst (λ o. IsSome o) w.in-Some.ensures.value refl in
      let written = ((c.get_mut.follows.holds e).3 some).0 in (
        old,
        get-kept _ _ c.args.first c.self.view_is ∙ sym (rw c.new.ensures.value at w.in-Some.ensures.value),
        rw w.self-inside-is (kept_insert _ _ _ c.args.first e c.self.view_is (rw c.new.ensures.value at written)),
      )
  | in_default w ↦
      absurd (there _ c.requires (get-kept _ _ c.args.first c.self.view_is
      ∙ sym (rw c.new.ensures.value at w.in_default.ensures.value)))
]

pub invariant_of-self : goal.invariant_of-self
invariant_of-self c =
    let done = relabelled c in
    let sound = rw c.self.view_is at c.self.invariant in
    let block = subst (λ o. IfSome o (IsBlock c.args.first)) done.1 (sound.blocks c.args.first) in
    rw done.2 (sound_change _ c.args.first done.0 _ sound done.1 block.sized (omega arith))

pub returns : goal.returns
returns c =
    let done = relabelled c in
    rw done.1 done.2
