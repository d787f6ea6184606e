use Rattle.std.proofs.Common.{◌≡◌, ◌∙◌, ap₂, codes, rules}
use Rattle.std.proofs.lemmas.Result.{IfOk-weaker}
use Rattle.clap.specs.Words.{app_of, new_app, with_rule}
use Rattle.command_line.specs.Options.{replica_rule, versioned}
use Rattle.pad_server.specs.CommandLine.{listen_rule, stdin_rule}
use Rattle.pad_server.proofs.args.with_service_options.Goals as goal

pub returns : goal.returns
returns c =
    let start : app_of c.override_usage.result ≡ versioned (new_app (codes "pad_server")) = search rules in
    let one : app_of c.in_ok-arg.field-0 ≡ with_rule (versioned (new_app (codes "pad_server"))) stdin_rule =
    c.in_ok-arg.ensures.shape c.stdin_flag.ensures.1 ∙ ap₂ with_rule start c.stdin_flag.ensures.0 in
    let two : app_of c.in_ok-arg-2.field-0 ≡ with_rule (with_rule (versioned (new_app (codes "pad_server"))) stdin_rule)
    listen_rule =
    c.in_ok-arg-2.ensures.shape c.listen_option.ensures.1 ∙ ap₂ with_rule one c.listen_option.ensures.0 in
    let three : app_of c.in_ok-arg-3.field-0
    ≡ with_rule (with_rule (with_rule (versioned (new_app (codes "pad_server"))) stdin_rule) listen_rule) replica_rule =
    c.in_ok-arg-3.ensures.shape c.replica_option.ensures.rest.0 ∙ ap₂ with_rule two c.replica_option.ensures.rule in
    IfOk-weaker c.arg-4.result _ _ (λ command added. added.shape c.accounts_option.ensures.rest.0
    ∙ ap₂ with_rule three c.accounts_option.ensures.rule) c.arg-4.ensures
