use Rattle.std.proofs.Common.{rules, ◌∷◌, []}
use Rattle.pad_core.specs.declared.act.Change.TheVariants.{Insert}
use Rattle.pad_core.proofs.edit.refuse_insert.Goals as goal

pub returns-clause-value : goal.returns-clause-value
returns-clause-value g c = c.first_refusal.ensures.value (Insert c.args.at c.args.text.now ∷ []) (record {
  outside = search rules;
  idle = search rules;
  much = search rules;
  growth = search rules;
})
