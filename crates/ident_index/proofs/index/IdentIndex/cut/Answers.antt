use Rattle.std.proofs.Common.{◌≡◌, ◌-◌, ◌<◌, Some, refl, subst, sym, ap, ◌∙◌, arith}
use Rattle.std.specs.Option.{IsSome, IsSomeAnd}
use Rattle.std.specs.FinMap.{get, insert}
use Rattle.ident_index.specs.Index.{stamp_behind}
use Rattle.ident_index.specs.View.{index_of}
use Rattle.ident_index.specs.declared.place.BlockEntry.{BlockEntry}
use Rattle.ident_index.proofs.Kept.{get-kept, kept_insert, there}
use Rattle.ident_index.proofs.Sound.{some_entry, sound_cut}
use Rattle.ident_index.proofs.Cut.{cut_kept, still_there, same_entry}
use Rattle.ident_index.proofs.index.IdentIndex.cut.Goals as goal
use Rattle.ident_index.proofs.index.IdentIndex.cut.Goals.{in-Some, in_default}

pub index-whole-requires : goal.index-whole-requires
index-whole-requires c =
    let found = some_entry _ _ c.requires in
    rw c.new-key.ensures.value (subst (λ o. IsSome o) (sym found.1 ∙ get-kept _ _ c.args.first c.self.view_is) refl)

pub overflow_sub-right : goal.overflow_sub-right
overflow_sub-right c =
    let is = get-kept _ _ c.args.first c.self.view_is ∙ (rw c.new-key.ensures.value at c.index-whole.ensures) in
    let inside = subst (λ o. IsSomeAnd o (λ (e : BlockEntry). (0 < c.args.offset) × (c.args.offset < e.len))) is
    c.requires in
    omega arith

-- the entry that was there, that it is cut inside, and the index with it cut
cut_in_two : (c : goal.Joined-get_mut) → let whole = c.index-whole.result.now in
    (get c.args.self.now c.args.first ≡ Some whole) × ((0 < c.args.offset) × (c.args.offset < whole.len))
    × (index_of c.match-get_mut.self-inside.entries.entries
    ≡ insert (insert c.args.self.now c.args.first (record whole { len = c.args.offset }))
    (stamp_behind c.args.first c.args.offset)
    (record { len = whole.len - c.args.offset; label = c.args.label }))
cut_in_two c =
    let whole = c.index-whole.result.now in
    let right : BlockEntry = record { len = whole.len - c.args.offset; label = c.args.label } in
    let is = get-kept _ _ c.args.first c.self.view_is ∙ (rw c.new-key.ensures.value at c.index-whole.ensures) in
    let inside = subst (λ o. IsSomeAnd o (λ (e : BlockEntry). (0 < c.args.offset) × (c.args.offset < e.len))) is
    c.requires in
    let entered = kept_insert _ _ _ (stamp_behind c.args.first c.args.offset) right c.self.view_is
    (rw (c.new.ensures.value, c.plus.ensures) at c.in_ok-insert.ensures.updates.0) in
    let found = still_there _ _ c.args.first c.args.offset whole right inside.0 is entered in
    elim c.match-get_mut.branch [
      | in-Some w ↦
          let left : BlockEntry = record w.in-Some.left.now { len = c.args.offset } in
          let same = same_entry w.in-Some.left.now whole ((rw c.new-key.ensures.value at w.in-Some.ensures.value)
          ∙ found) in
          let some = subst (λ o. IsSome o) w.in-Some.ensures.value refl in
          let written = ((c.get_mut.follows.holds left).3 some).0 in (
            is,
            inside,
            rw w.self-inside-is
                (cut_kept _ _ _ c.args.first c.args.offset whole right left inside.0 entered
                (rw c.new-key.ensures.value at written)
                (ap (λ (e : BlockEntry). record e { len = c.args.offset }) same)),
          )
      | in_default w ↦
          absurd (there _ (subst (λ o. IsSome o) (sym found) refl)
          (sym (rw c.new-key.ensures.value at w.in_default.ensures.value)))
    ]

pub invariant_of-self-2 : goal.invariant_of-self-2
invariant_of-self-2 c =
    let done = cut_in_two c in
    let inside = done.1 in
    rw done.2 (sound_cut _ c.args.first c.index-whole.result.now _ _ (rw c.self.view_is at c.self.invariant) done.0
    (omega arith) (omega arith) (omega arith))

pub returns-clause-ok : goal.returns-clause-ok
returns-clause-ok c =
    let done = cut_in_two c in
    rw done.0 done.2
