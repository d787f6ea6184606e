-- The text in front of the line feed is the value's: it reads as it, and has no byte below 32.
use Rattle.std.proofs.Common.{◌≡◌, ◌≤◌, ◌++◌, ◌∷◌, [], string_bytes, rules, sym, ap, ◌∙◌, subst}
use Rattle.std.specs.List.{AllByRecursion}
use Rattle.serde_json.specs.View.{view}
use Rattle.serde_json.specs.Written.{compact_text}
use Rattle.wire_json.proofs.OneLine.{text_plain}
use Rattle.wire_json.proofs.value_lines.text_of.Goals as goal

pub returns : goal.returns
returns c floatless low =
    let ended : string_bytes c.push.new.self ≡ string_bytes c.in_ok-line.line ++ 10 ∷ [] = search rules in
    let compact : string_bytes c.in_ok-line.line ≡ compact_text (view c.args.value.now) =
    c.in_ok-line.ensures.text floatless in
    let plain : AllByRecursion (λ byte. 32 ≤ byte) (string_bytes c.in_ok-line.line) =
    subst (λ text. AllByRecursion (λ byte. 32 ≤ byte) text) (sym compact) (text_plain (view c.args.value.now)) in (
      ended ∙ ap (λ text. text ++ 10 ∷ []) compact,
      (string_bytes c.in_ok-line.line, ended, plain, c.in_ok-line.ensures.reads_back low),
    )
