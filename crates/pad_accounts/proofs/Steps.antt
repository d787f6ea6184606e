-- A step of each loop over lines.
use Rattle.std.proofs.Common.{◌≡◌, ◌∙◌, ℕ, ◌+◌, Bool, true, false, cond, List, [], ◌∷◌, ◌++◌, map, Some, ap, sym, append_assoc}
use Rattle.std.proofs.lemmas.List.{map-append}
use Rattle.pad_accounts.specs.Lines.{is_out, without, without_end}
use Rattle.pad_accounts.specs.Names.{Seen, is_passed_over, names_from, seen}
use Rattle.pad_accounts.specs.declared.lines.Taken.{Taken}
use Rattle.pad_accounts.specs.declared.names.ListedName.{ListedName}

-- a line that is taken out
pub left_out : (taken : Taken) (name kept line : List ℕ) (lines more : List (List ℕ)) → lines ≡ line ∷ more
    → is_out taken name line ≡ true → kept ++ without taken name lines ≡ kept ++ without taken name more
left_out taken name kept line lines more at out =
    ap (λ (ls : List (List ℕ)). kept ++ without taken name ls) at
    ∙ ap (λ (b : Bool). kept ++ (cond b [] line ++ without taken name more)) out

-- any other line is kept
pub kept_on : (taken : Taken) (name kept line : List ℕ) (lines more : List (List ℕ)) → lines ≡ line ∷ more
    → is_out taken name line ≡ false → kept ++ without taken name lines ≡ kept ++ line ++ without taken name more
kept_on taken name kept line lines more at stays =
    ap (λ (ls : List (List ℕ)). kept ++ without taken name ls) at
    ∙ ap (λ (b : Bool). kept ++ (cond b [] line ++ without taken name more)) stays
    ∙ sym (append_assoc kept line (without taken name more))

-- a line of a list without a name
pub passed_over : (names : List Seen) (number : ℕ) (line : List ℕ) (lines more : List (List ℕ)) → lines ≡ line ∷ more
    → is_passed_over (without_end line) ≡ true → names ++ names_from number lines ≡ names ++ names_from (number + 1) more
passed_over names number line lines more at is =
    ap (λ (ls : List (List ℕ)). names ++ names_from number ls) at
    ∙ ap (λ (b : Bool). names ++ cond b (names_from (number + 1) more)
    ((without_end line, Some number) ∷ names_from (number + 1) more)) is

-- a line with a name, which is added
pub named : (names : List ListedName) (new : ListedName) (number : ℕ) (line : List ℕ) (lines more : List (List ℕ))
    → lines ≡ line ∷ more → is_passed_over (without_end line) ≡ false → seen new ≡ (without_end line, Some number)
    → map seen names ++ names_from number lines ≡ map seen (names ++ new ∷ []) ++ names_from (number + 1) more
named names new number line lines more at is same =
    ap (λ (ls : List (List ℕ)). map seen names ++ names_from number ls) at
    ∙ ap (λ (b : Bool). map seen names ++ cond b (names_from (number + 1) more)
    ((without_end line, Some number) ∷ names_from (number + 1) more)) is
    ∙ ap (λ (s : Seen). map seen names ++ s ∷ names_from (number + 1) more) (sym same)
    ∙ sym (append_assoc (map seen names) (seen new ∷ []) (names_from (number + 1) more))
    ∙ ap (λ (xs : List Seen). xs ++ names_from (number + 1) more) (sym (map-append seen names (new ∷ [])))
