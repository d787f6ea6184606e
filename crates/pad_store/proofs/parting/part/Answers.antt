use Rattle.std.proofs.Common.{◌∙◌, sym, ap, map}
use Rattle.std.proofs.lemmas.List.{drop-map, take-map}
use Rattle.pad_store.specs.Partings.{Part}
use Rattle.pad_store.proofs.parting.part.Goals as goal

pub returns : goal.returns
unfolding Part
returns c = (
  c.last_shared.result,
  c.last_shared.ensures,
  ap (map (λ line. line.now)) c.split_at.ensures.front ∙ sym (take-map (λ line. line.now) c.last_shared.result c.args.olds.now),
  ap (map (λ line. line.now)) c.split_at.ensures.back ∙ sym (drop-map (λ line. line.now) c.last_shared.result c.args.olds.now),
)
