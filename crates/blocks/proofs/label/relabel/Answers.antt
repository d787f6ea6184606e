use Rattle.std.proofs.Common.{◌≡◌, refl, sym, ap, ◌∙◌, subst, Some, arith, inl, inr}
use Rattle.std.specs.FinMap.{get, get-insert}
use Rattle.std.specs.Option.{IsSomeAnd}
use Rattle.pad_model.specs.Stamp.{Stamp}
use Rattle.ident_index.specs.Index.{Covers, Holds}
use Rattle.ident_index.specs.declared.place.BlockEntry.{BlockEntry}
use Rattle.ident_index.proofs.Order.{stamp_cmp_total}
use Rattle.ident_index.proofs.Sound.{holds_insert}
use Rattle.blocks.specs.declared.block.Block.{Block}
use Rattle.blocks.specs.Blocks.{entry, IsListed, IsSized}
use Rattle.blocks.proofs.Entries.{entry_here, listed_set, each_get, weight_fits_set, len_small}
use Rattle.blocks.proofs.label.relabel.Goals as goal
use Rattle.blocks.proofs.label.relabel.Goals.{After-get, After-relabel}

there : (c : After-get) → get c.args.index.now c.get.result.now.first ≡ Some (entry c.get.result.now)
there c = c.requires.listed.index c.get.result.now.first ∙ entry_here c.args.tree.now.items c.args.rank c.get.result.now
    c.requires.listed.apart c.get.ensures.item

pub relabel-requires : goal.relabel-requires
relabel-requires c = rw (there (goal.at.relabel-requires c).After-get) refl

pub replace-requires-clause-weight_fits : goal.replace-requires-clause-weight_fits
replace-requires-clause-weight_fits c =
    let small = len_small c.args.tree.now.items c.args.rank c.get.result.now c.get.ensures.item in
    weight_fits_set c.args.index.now c.args.tree.now.items c.args.rank _ c.requires.listed
    (omega (arith, small, c.requires.listed.small))

pub returns-clause-listed : goal.returns-clause-listed
returns-clause-listed c =
    let b = c.get.result.now in
    let e : Block = record b { label = c.args.label } in
    let is = there (goal.at.returns-clause-listed c).After-get in
    let new = rw is at c.relabel.ensures in
    let sized = each_get IsSized c.args.tree.now.items c.args.rank b c.requires.listed.sized c.get.ensures.item in
    subst (IsListed c.relabel.new.self) (sym c.replace.ensures.items)
    (listed_set c.args.index.now c.relabel.new.self c.args.tree.now.items c.args.rank b e c.requires.listed
    c.get.ensures.item refl sized (omega arith)
    (λ q. ap (λ m. get m q) new ∙ get-insert stamp_cmp_total c.args.index.now b.first (entry e) q))

pub returns-clause-held : goal.returns-clause-held
returns-clause-held c = λ first s h.
    let b = c.get.result.now in
    let is = there (goal.at.returns-clause-held c).After-get in
    let new = rw is at c.relabel.ensures in
    elim (holds_insert c.args.index.now b.first (record (entry b) { label = c.args.label }) first s
    (subst (λ m. Holds m first s) new h)) [
      | inl here ↦ subst (λ (o : Stamp). Holds c.args.index.now o s) (sym here.0)
          (subst (λ o. IsSomeAnd o (λ (x : BlockEntry). Covers b.first x.len s)) (sym is) here.1)
      | inr beside ↦ beside.1
    ]
