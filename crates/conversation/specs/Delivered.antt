-- The number of operations that an answer, or all answers, report as delivered.
use Rattle.std.specs.Prelude.{◌≡◌, ℕ, ◌+◌, ◌-◌, ◌^◌, min, List, [], ◌∷◌, length, sum_by, Option, None, Some, Ok}
use Rattle.std.specs.Prelude.{Err}
use Rattle.pad_core.specs.declared.reply.Pushed.TheVariants as pushed
use Rattle.pad_core.specs.declared.reply.PadReply.{PadReply}
use Rattle.pad_core.specs.declared.reply.PadReply.TheVariants as pad
use Rattle.pad_core.specs.declared.reply.Reply.TheVariants as reply
use Rattle.conversation.specs.Session.{Answer}
use Rattle.conversation.specs.declared.served.Served.{Served}

-- a count, but at most the greatest u64
abbrev pub up_to : ℕ → ℕ
up_to count = min count (2 ^ 64 - 1)

-- the number of operations that a pad's answer reports as delivered: an edit's own, and a push's own and those that it
-- released
abbrev pub delivered_in : PadReply → ℕ
delivered_in (pad.Made now name) = 1
delivered_in (pad.Changed now name hidden) = 1
delivered_in (pad.Pushed now pushed.Delivered released dropped) = up_to (released + 1)
delivered_in (pad.Pushed now pushed.Held released dropped) = released
delivered_in (pad.Pushed now pushed.Repeat released dropped) = released
delivered_in other = 0

-- the number of operations that an answer reports as delivered
abbrev pub delivered_of : Answer → ℕ
delivered_of (Ok (reply.Pad answer)) = delivered_in answer
delivered_of (Ok other) = 0
delivered_of (Err refusal) = 0

-- the counts of these answers and of the operations that they report
abbrev pub IsCount : Served → List Answer → Type 0
IsCount served answers = (served.lines ≡ up_to (length answers))
    × (served.delivered ≡ up_to (sum_by delivered_of answers))

-- no answer, or one answer that reports this many operations
abbrev pub Tells : Option ℕ → List Answer → Type 0
Tells None answers = answers ≡ []
Tells (Some count) answers = (answer : Answer) × (answers ≡ answer ∷ [])
    × (count ≡ delivered_of answer)

-- the counts with one more answer, if there is one
abbrev pub counted : Served → Option ℕ → Served
counted served None = served
counted served (Some count) = record {
  lines = up_to (served.lines + 1);
  delivered = up_to (served.delivered + count);
}
