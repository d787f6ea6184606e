use Rattle.block_seq.proofs.BlockScan.{place_from}
use Rattle.block_seq.proofs.run_place.find_place.Goals as goal

pub returns-clause-place : goal.returns-clause-place
returns-clause-place c = λ authors text w h.
    place_from c.args.first c.args.parent c.args.tree.now.items c.start_run.result c.scan_blocks.result
    c.requires.kept.listed.sized (c.start_run.ensures.start authors text w h) c.scan_blocks.ensures.value
