use Rattle.std.proofs.Common.{◌∙◌, rules}
use Rattle.std.specs.Ordering.{nat_cmp}
use Rattle.blocks.specs.declared.block.TheConstants.{LAST_LABEL}
use Rattle.weight_tree.proofs.CallerLemmas.{rank_from_clause}
use Rattle.blocks.proofs.Labels.{search_rises, search_ends}
use Rattle.blocks.proofs.find.rank_of.Goals as goal

pub returns : goal.returns
returns c = λ r b e is.
    rank_from_clause (λ x. nat_cmp x.label c.args.label) c.args.tree.now.items c.rank_by.result.rank
    c.rank_by.ensures.rank (search_rises 0 LAST_LABEL c.args.tree.now.items c.args.label c.requires)
    (λ a r f' k. search rules)
    ∙ search_ends 0 LAST_LABEL c.args.tree.now.items r b c.args.label c.requires e is
