use Rattle.std.proofs.Common.{◌≡◌, ◌∙◌, ap, ap₂, codes, false, rules}
use Rattle.std.proofs.lemmas.Result.{IfOk-weaker}
use Rattle.clap.specs.Words.{app_of, new_app, rule_of, with_rule}
use Rattle.command_line.specs.Options.{accounts_rule, cells_rule, present_rule, replica_rule, versioned}
use Rattle.pad_replay.specs.CommandLine.{mandatory}
use Rattle.pad_replay.proofs.args.command.Goals as goal

pub returns : goal.returns
returns c =
    let start : app_of c.version.result ≡ versioned (new_app (codes "pad_replay")) = search rules in
    let cells_is : rule_of c.mandatory.result ≡ mandatory cells_rule = c.mandatory.ensures.rule
    ∙ ap mandatory c.cells_option.ensures.rule in
    let cells_local : c.mandatory.result.global ≡ false = c.mandatory.ensures.local ∙ c.cells_option.ensures.rest.0 in
    let path_is : rule_of c.mandatory-2.result ≡ mandatory accounts_rule =
    c.mandatory-2.ensures.rule ∙ ap mandatory c.accounts_option.ensures.rule in
    let path_local : c.mandatory-2.result.global ≡ false = c.mandatory-2.ensures.local
    ∙ c.accounts_option.ensures.rest.0 in
    let one : app_of c.in_ok-arg.field-0 ≡ with_rule (versioned (new_app (codes "pad_replay"))) replica_rule =
    c.in_ok-arg.ensures.shape c.replica_option.ensures.rest.0 ∙ ap₂ with_rule start c.replica_option.ensures.rule in
    let two : app_of c.in_ok-arg-2.field-0
    ≡ with_rule (with_rule (versioned (new_app (codes "pad_replay"))) replica_rule) (mandatory cells_rule) =
    c.in_ok-arg-2.ensures.shape cells_local ∙ ap₂ with_rule one cells_is in
    let three : app_of c.in_ok-arg-3.field-0
    ≡ with_rule (with_rule (with_rule (versioned (new_app (codes "pad_replay"))) replica_rule) (mandatory cells_rule))
    present_rule =
    c.in_ok-arg-3.ensures.shape c.present_option.ensures.rest.0 ∙ ap₂ with_rule two c.present_option.ensures.rule in
    let four : app_of c.in_ok-arg-4.field-0
    ≡ with_rule (with_rule (with_rule (with_rule (versioned (new_app (codes "pad_replay"))) replica_rule)
    (mandatory cells_rule)) present_rule) (mandatory accounts_rule) =
    c.in_ok-arg-4.ensures.shape path_local ∙ ap₂ with_rule three path_is in
    IfOk-weaker c.arg-5.result _ _ (λ command added. added.shape c.plain_flag.ensures.1
    ∙ ap₂ with_rule four c.plain_flag.ensures.0) c.arg-5.ensures
