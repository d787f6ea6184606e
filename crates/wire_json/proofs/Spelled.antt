-- The lines of replies with only numbers: each is the text of the reply's value, and is read as it.
use Rattle.std.proofs.Common.{◌≡◌, ℕ, false, arith, ◌^◌, ◌<◌, ◌≤◌, List, [], ◌∷◌, ◌++◌, codes, decimal, Option, Some}
use Rattle.std.proofs.Common.{Result, Ok, Err, IfOk, option_and_then, refl, sym, ap, ◌∙◌, subst, append_assoc}
use Rattle.std.proofs.Common.{append-nil, lit≤}
use Rattle.json.specs.Json as json
use Rattle.json.specs.Tree as tree
use Rattle.json.specs.Lex.{tokens}
use Rattle.json.specs.Print.{print, escape_byte, quoted}
use Rattle.json.specs.Token.{Token}
use Rattle.json.proofs.Printed.Decimals.{IsNumber-decimal}
use Rattle.json.proofs.Printed.Tokens.{tokens-print}
use Rattle.json.proofs.Printed.Trees.{value-json_tokens, ArePrintable-json_tokens}
use Rattle.serde_json.specs.Data.{Data, depth}
use Rattle.serde_json.specs.Read.{of_json, max_depth, read}
use Rattle.serde_json.specs.View.{view}
use Rattle.serde_json.specs.Written.{compact_text, outline, has_float}
use Rattle.serde_json.specs.declared.value.Value.{Value}
use Rattle.serde_json.proofs.Numbers.{number_of-decimal}
use Rattle.serde_json.proofs.Texts.{print-outline}
use Rattle.pad_model.specs.declared.op.OpName.{OpName}
use Rattle.pad_model.specs.declared.refusal.Refusal.{Refusal}
use Rattle.pad_core.specs.declared.reply.PadReply.TheVariants as pad
use Rattle.pad_core.specs.declared.reply.Pushed.{Pushed}
use Rattle.pad_core.specs.declared.reply.Pushed.TheVariants as pushed
use Rattle.pad_core.specs.declared.reply.Reply.{Reply}
use Rattle.wire_json.specs.Replies.{IsWritten, answer, pad_data, outcome_data}
use Rattle.wire_json.specs.Words.{state_word}
use Rattle.wire_json.proofs.OneLine.{text_plain}
use Rattle.wire_json.proofs.Plain.{outcome_has_no_float, outcome_is_shallow}

-- the text of a value is read as the value, if its numbers have texts and it is nested only a few levels deep
record IsReadable (d : Data) : Type 0 where
  numbers : tree.HasNumbers (outline d)
  shallow : tree.depth (outline d) ≤ max_depth
  same : of_json (outline d) ≡ Some d

abbrev whole : Option (json.Json × List Token) → Option Data
whole o = option_and_then of_json (option_and_then (λ p. json.if_last p.0 p.1) o)

read_back : (d : Data) → IsReadable d → read (compact_text d) ≡ Some d
read_back d h =
    let ts : List Token = tree.json_tokens (outline d) in
    let again : tokens (print ts) ≡ ts ++ [] = tokens-print ts (ArePrintable-json_tokens (outline d) h.numbers)
    ∙ sym (append-nil ts) in
    subst (λ text. read text ≡ Some d) (print-outline d)
    (ap whole (ap (json.value max_depth) again ∙ value-json_tokens (outline d) max_depth [] h.shallow) ∙ h.same)

written : (d : Data) (line : List ℕ) → IsReadable d → line ≡ compact_text d ++ 10 ∷ [] → IsWritten d line
written d line h is = (is, (compact_text d, is, text_plain d, read_back d h))

-- a line feed after a text that ends in a number and more is one after what follows the number
behind : (front : List ℕ) (n : ℕ) (rest back : List ℕ) → rest ≡ back ++ 10 ∷ [] → front ++ (decimal n ++ rest)
    ≡ (front ++ (decimal n ++ back)) ++ 10 ∷ []
behind front n rest back is =
    ap (λ r. front ++ (decimal n ++ r)) is
    ∙ ap (λ r. front ++ r) (sym (append_assoc (decimal n) back (10 ∷ [])))
    ∙ sym (append_assoc front (decimal n ++ back) (10 ∷ []))

-- a text appended to nothing
pub onto : (old text line : List ℕ) → old ≡ [] → line ≡ old ++ text → line ≡ text
onto old text line none is = is ∙ ap (λ b. b ++ text) none

-- what follows the name of an operation follows its bracket
name_before : (name : OpName) (rest : List ℕ)
    → decimal name.origin ++ (codes "," ++ (decimal name.number ++ (codes "]" ++ rest)))
    ≡ (decimal name.origin ++ (codes "," ++ (decimal name.number ++ codes "]"))) ++ rest
name_before name rest =
    ap (λ r. decimal name.origin ++ (codes "," ++ r)) (sym (append_assoc (decimal name.number) (codes "]") rest))
    ∙ sym (append_assoc (decimal name.origin) (codes "," ++ (decimal name.number ++ codes "]")) rest)

pub done : (now : ℕ) (line : List ℕ) → now < 2 ^ 64 → line ≡ codes "{\"now\":"
    ++ (decimal now ++ codes ",\"ok\":true}\n") → IsWritten (pad_data (pad.Done now)) line
unfolding escape_byte
done now line low is =
    written _ line (record { numbers = (IsNumber-decimal now low, (tt, tt)); shallow = lit≤ tt; same = rw (number_of-decimal now low) refl })
    (is ∙ behind (codes "{\"now\":") now _ (codes ",\"ok\":true}") refl)

pub joined : (now visit : ℕ) (line : List ℕ) → now < 2 ^ 64 → visit < 2 ^ 64
    → line ≡ codes "{\"now\":" ++ (decimal now ++ (codes ",\"ok\":true,\"visit\":" ++ (decimal visit ++ codes "}\n")))
    → IsWritten (pad_data (pad.Joined now visit)) line
unfolding escape_byte
joined now visit line low low_visit is =
    written _ line (record {
      numbers = (IsNumber-decimal now low, (tt, (IsNumber-decimal visit low_visit, tt)));
      shallow = lit≤ tt;
      same = rw (number_of-decimal now low, number_of-decimal visit low_visit) refl;
    })
    (is ∙ behind (codes "{\"now\":") now _ _ (behind (codes ",\"ok\":true,\"visit\":") visit _ (codes "}") refl))

pub made : (now : ℕ) (name : OpName) (line : List ℕ) → now < 2 ^ 64 → name.origin < 2 ^ 64 → name.number < 2 ^ 64
    → line ≡ codes "{\"name\":[" ++ (decimal name.origin
    ++ (codes "," ++ (decimal name.number ++ (codes "],\"now\":" ++ (decimal now ++ codes ",\"ok\":true}\n")))))
    → IsWritten (pad_data (pad.Made now name)) line
unfolding escape_byte
made now name line low low_origin low_number is =
    written _ line (record {
      numbers = (
        (IsNumber-decimal name.origin low_origin, (IsNumber-decimal name.number low_number, tt)),
        (IsNumber-decimal now low, (tt, tt)),
      );
      shallow = lit≤ tt;
      same = rw (
        number_of-decimal name.origin low_origin,
        number_of-decimal name.number low_number,
        number_of-decimal now low,
      ) refl;
    })
    (is ∙ behind (codes "{\"name\":[") name.origin _ (codes "," ++ (decimal name.number ++ (codes "]" ++ back)))
    (behind (codes ",") name.number _ (codes "]" ++ back)
    (behind (codes "],\"now\":") now _ (codes ",\"ok\":true}") refl))
    ∙ ap (λ t. (codes "{\"name\":[" ++ t) ++ 10 ∷ []) (name_before name back))
  where
    back : List ℕ
    back = codes ",\"now\":" ++ (decimal now ++ codes ",\"ok\":true}")

pub changed : (now : ℕ) (name : OpName) (hidden : ℕ) (line : List ℕ) → now < 2 ^ 64 → name.origin < 2 ^ 64 → name.number
    < 2 ^ 64 → hidden < 2 ^ 64
    → line ≡ codes "{\"hidden\":" ++ (decimal hidden
    ++ (codes ",\"name\":[" ++ (decimal name.origin ++ (codes "," ++ (decimal name.number
    ++ (codes "],\"now\":" ++ (decimal now ++ codes ",\"ok\":true}\n")))))))
    → IsWritten (pad_data (pad.Changed now name hidden)) line
unfolding escape_byte
changed now name hidden line low low_origin low_number low_hidden is =
    written _ line (record {
      numbers = (
        IsNumber-decimal hidden low_hidden,
        (
          (IsNumber-decimal name.origin low_origin, (IsNumber-decimal name.number low_number, tt)),
          (IsNumber-decimal now low, (tt, tt)),
        ),
      );
      shallow = lit≤ tt;
      same = rw (
        number_of-decimal hidden low_hidden,
        number_of-decimal name.origin low_origin,
        number_of-decimal name.number low_number,
        number_of-decimal now low,
      ) refl;
    })
    (is ∙ behind (codes "{\"hidden\":") hidden _ (codes ",\"name\":["
    ++ (decimal name.origin ++ (codes "," ++ (decimal name.number ++ (codes "]" ++ back)))))
    (behind (codes ",\"name\":[") name.origin _ (codes "," ++ (decimal name.number ++ (codes "]" ++ back)))
    (behind (codes ",") name.number _ (codes "]" ++ back)
    (behind (codes "],\"now\":") now _ (codes ",\"ok\":true}") refl)))
    ∙ ap (λ t. (codes "{\"hidden\":" ++ (decimal hidden ++ (codes ",\"name\":[" ++ t))) ++ 10 ∷ [])
    (name_before name back))
  where
    back : List ℕ
    back = codes ",\"now\":" ++ (decimal now ++ codes ",\"ok\":true}")

pub revs : (now cells len : ℕ) (line : List ℕ) → now < 2 ^ 64 → cells < 2 ^ 64 → len < 2 ^ 64
    → line ≡ codes "{\"cells\":" ++ (decimal cells
    ++ (codes ",\"length\":" ++ (decimal len ++ (codes ",\"now\":" ++ (decimal now ++ codes ",\"ok\":true}\n")))))
    → IsWritten (pad_data (pad.Revs now cells len)) line
unfolding escape_byte
revs now cells len line low low_cells low_len is =
    written _ line (record {
      numbers = (
        IsNumber-decimal cells low_cells,
        (IsNumber-decimal len low_len, (IsNumber-decimal now low, (tt, tt))),
      );
      shallow = lit≤ tt;
      same = rw (number_of-decimal cells low_cells, number_of-decimal len low_len, number_of-decimal now low) refl;
    })
    (is ∙ behind (codes "{\"cells\":") cells _ _
    (behind (codes ",\"length\":") len _ _ (behind (codes ",\"now\":") now _ (codes ",\"ok\":true}") refl)))

abbrev pushed_pieces : (now released dropped : ℕ) (word : List ℕ) → List ℕ
pushed_pieces now released dropped word =
    codes "{\"dropped\":" ++ (decimal dropped
    ++ (codes ",\"now\":" ++ (decimal now ++ (codes ",\"ok\":true,\"released\":" ++ (decimal released
    ++ (codes ",\"state\":\"" ++ (word ++ codes "\"}\n")))))))

pub pushed_told : (now : ℕ) (state : Pushed) (word : List ℕ) (released dropped : ℕ) (line : List ℕ) → now < 2 ^ 64 →
    released < 2 ^ 64 → dropped < 2 ^ 64
    → word ≡ state_word state → line ≡ pushed_pieces now released dropped word →
    IsWritten (pad_data (pad.Pushed now state released dropped)) line
unfolding escape_byte
pushed_told now state word released dropped line low low_released low_dropped named is =
    written _ line (record {
      numbers = (
        IsNumber-decimal dropped low_dropped,
        (IsNumber-decimal now low, (tt, (IsNumber-decimal released low_released, (tt, tt)))),
      );
      shallow = lit≤ tt;
      same = rw (
        number_of-decimal dropped low_dropped,
        number_of-decimal now low,
        number_of-decimal released low_released,
      ) refl;
    })
    (is ∙ ap (pushed_pieces now released dropped) named ∙ behind (codes "{\"dropped\":") dropped _ _
    (behind (codes ",\"now\":") now _ _
    (behind (codes ",\"ok\":true,\"released\":") released _ _ (last_word state))))
  where
    last_word : (s : Pushed) → codes ",\"state\":\"" ++ (state_word s ++ codes "\"}\n")
        ≡ (codes ",\"state\":" ++ (quoted (state_word s) ++ codes "}")) ++ 10 ∷ []
    last_word pushed.Repeat = refl
    last_word pushed.Held = refl
    last_word pushed.Delivered = refl

-- the reply that only says that all is well
pub ended : IsWritten (answer []) (codes "{\"ok\":true}\n")
unfolding escape_byte
ended = written (answer []) _ (record { numbers = (tt, tt); shallow = lit≤ tt; same = refl }) refl

pub if_ended : {A E : Type 0} (bytes_of : A → List ℕ) (r : Result A E) →
    IfOk r (λ line. bytes_of line ≡ codes "{\"ok\":true}\n") → IfOk r (λ line. IsWritten (answer []) (bytes_of line))
if_ended bytes_of (Ok line) is = subst (λ bytes. IsWritten (answer []) bytes) (sym is) ended
if_ended bytes_of (Err e) is = is

-- the line of such a value, which holds no float and is nested only a few levels deep
pub said : {A E : Type 0} (bytes_of : A → List ℕ) (d : Data) (value : Result Value E) (r : Result A E)
    → has_float d ≡ false → depth d ≤ 7 → IfOk value (λ v. view v ≡ d)
    → IfOk r (λ line. (v : Value) × (value ≡ Ok v) × (has_float (view v) ≡ false → depth (view v) ≤ max_depth →
    IsWritten (view v) (bytes_of line)))
    → IfOk r (λ line. IsWritten d (bytes_of line))
said bytes_of d value (Err e) floatless low is_said says = tt
said bytes_of d value (Ok line) floatless low is_said says =
    let v = says.0 in
    let same : view v ≡ d = subst (λ r. IfOk r (λ v. view v ≡ d)) says.1 is_said in
    let shallow : depth d ≤ max_depth = omega (arith, low) in
    subst (λ d. IsWritten d (bytes_of line)) same (says.2 (rw same floatless) (rw same shallow))

-- the line of a value that is a reply's
pub outcome_said : {A E : Type 0} (bytes_of : A → List ℕ) (outcome : Result Reply Refusal) (value : Result Value E)
    (r : Result A E)
    → IfOk value (λ v. view v ≡ outcome_data outcome)
    → IfOk r (λ line. (v : Value) × (value ≡ Ok v) × (has_float (view v) ≡ false → depth (view v) ≤ max_depth →
    IsWritten (view v) (bytes_of line)))
    → IfOk r (λ line. IsWritten (outcome_data outcome) (bytes_of line))
outcome_said bytes_of outcome value r is_said says =
    said bytes_of (outcome_data outcome) value r (outcome_has_no_float outcome)
    (outcome_is_shallow outcome) is_said says
