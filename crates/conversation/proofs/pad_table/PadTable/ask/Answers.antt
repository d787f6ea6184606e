use Rattle.std.proofs.Common.{sym, ap, ◌∙◌}
use Rattle.conversation.proofs.RowScans.{searched}
use Rattle.server_core.specs.Opening.{act_refusal, create_refusal}
use Rattle.conversation.proofs.pad_table.PadTable.ask.Goals as goal

pub returns-in-None : goal.returns-in-None
returns-in-None g c =
    rw c.in-Create.is (searched _ _ _ _ _ _ _ _ c.search.result
    (sym (c.create_refusal.ensures ∙ ap (λ w. create_refusal w c.in-Create.pad) c.who.ensures.value) ∙ c.in-None.is)
    c.search.ensures.who (rw c.in-Create.is at c.search.ensures.seeks))

pub returns-in-None-act_refusal : goal.returns-in-None-act_refusal
returns-in-None-act_refusal g c =
    rw c.in-On.is (searched _ _ _ _ _ _ _ _ c.search-in-None-act_refusal.result
    (sym (c.act_refusal.ensures ∙ ap (λ w. act_refusal w c.in-On.pad c.in-On.act) c.who-in-On.ensures.value)
    ∙ c.in-None-act_refusal.is) c.search-in-None-act_refusal.ensures.who
    (rw c.in-On.is at c.search-in-None-act_refusal.ensures.seeks))
