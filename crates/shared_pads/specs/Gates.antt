-- What a gate is told, and what it lets pass.
use Rattle.std.specs.Prelude.{◌≡◌, ◌+◌, Bool, true, ⊤, drop, length, MatchResult}
use Rattle.pad_model.specs.declared.refusal.Refusal.TheVariants.{Memory}
use Rattle.op_log.specs.Made.{last_visit}
use Rattle.pad_core.specs.declared.request.Request.{Request}
use Rattle.shared_pads.specs.LockedPad.{LockedPad}
use Rattle.shared_pads.specs.Seats.{Tells}
use Rattle.shared_pads.specs.declared.gate.Answered.{Answered}

-- what a gate is told is what the pad behind its lock has gained: as many operations as the answer says, the visit of
-- the last one, and these very operations if the gate reads them, unless memory ran out
abbrev pub IsGained : Bool → Answered → LockedPad → Type 0
IsGained reads answered kept =
    (answered.from + answered.made ≡ length kept.pad.log)
    × Tells answered.request.now answered.answer.now answered.made
    × (answered.visit ≡ last_visit kept.pad.made)
    × (reads ≡ true → MatchResult answered.more.now (λ items. items ≡ drop answered.from kept.pad.log)
    (λ e. e ≡ Memory))

-- a gate let a request pass. `Gate::keeps` alone gives this fact
pub IsLet : Request → Type 0
IsLet request = ⊤

-- a request that is let pass
pub let_pass : (request : Request) → IsLet request
unfolding IsLet
let_pass request = tt
