use Rattle.std.proofs.Common.{◌≡◌, IsTrue, IfOk, List, ℕ, None, Some, Option, Result, Ok, Err, sym, ap, subst}
use Rattle.std.specs.Option.{IfSome}
use Rattle.pad_model.specs.Checked.{is_name}
use Rattle.pad_model.specs.declared.refusal.Refusal.{Refusal}
use Rattle.server_core.specs.Served.{IsFormed, Served}
use Rattle.server_core.specs.declared.step.Moved.{Moved}
use Rattle.server_core.specs.declared.step.Step.TheVariants.{Look}
use Rattle.conversation.specs.Calls.{Alone, named}
use Rattle.conversation.proofs.alone.AlonePads.name_of.Goals as goal

-- what a look told well formed, is so as the answer
formed_name : (r : Result (Option (List ℕ)) Refusal) (told : Moved) → named r ≡ told → IsFormed told →
    IfOk r (λ name. IfSome name (λ text. IsTrue (is_name text)))
formed_name (Ok None) told is formed = tt
formed_name (Ok (Some name)) told is formed = subst IsFormed (sym is) formed
formed_name (Err refusal) told is formed = tt

pub returns : goal.returns
returns g c = (
  (
    subst (λ (o : Alone). Served o.server o.actor (Look c.args.cell) (named c.name_in.result) c.look.new.server)
        c.self.view_is
        (subst (λ m. Served c.self.inside.server c.self.inside.actor (Look c.args.cell) m c.look.new.server)
        (sym c.name_in.ensures) c.look.ensures.looks),
    ap (λ o. o.actor) c.self.view_is,
  ),
  formed_name c.name_in.result c.look.result c.name_in.ensures c.look.ensures.formed,
)
