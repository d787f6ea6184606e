-- A name that is made from a user leads back to that user.
use Rattle.std.proofs.Common.{◌≡◌, ℕ, ◌+◌, ◌*◌, ◌/◌, ◌%◌, ◌<◌, Bool, true, false, cond, List, [], ◌∷◌, ◌++◌, Some, take, refl, sym, ap, ◌∙◌, arith, eqb, append_assoc}
use Rattle.std.proofs.Common.{true≢false, bytes_eq, fold, length, get_or}
use Rattle.std.proofs.lemmas.Bool.{eqb-true, cond-true, cond-false}
use Rattle.std.proofs.lemmas.List.{append-nil, take_more}
use Rattle.std.proofs.lemmas.List.Sums.{fold-append}
use Rattle.std.proofs.lemmas.Option.{same_Some}
use Rattle.std.proofs.lemmas.Slice.Eq.{bytes_eq-Decides}
use Rattle.pad_model.proofs.Newer.{split}
use Rattle.sessions.specs.UserNames.{Reading, bytes_in, digit_of, is_plain, letters_of, name_for, number_of, read, user_for}
use Rattle.sessions.specs.UserLaws.{AreBytes, OneUserLaw, TellsUserLaw}
use Rattle.sessions.specs.declared.user_name.Escape.TheVariants.{Without, Dash}

-- one more byte at the end of a user
pub name_for-append : (xs ys : List ℕ) → name_for (xs ++ ys) ≡ name_for xs ++ name_for ys
name_for-append [] ys = refl
name_for-append (x ∷ xs) ys =
    ap (λ l. letters_of x ++ l) (name_for-append xs ys) ∙ sym (append_assoc (letters_of x) (name_for xs) (name_for ys))

-- the name of the bytes so far, and one more
pub name_more : (user : List ℕ) (i : ℕ) (now new : List ℕ) → i < length user → now ≡ name_for (take i user)
    → new ≡ now ++ letters_of (get_or user i 0) → new ≡ name_for (take (i + 1) user)
name_more user i now new h was is =
    is ∙ ap (λ l. l ++ letters_of (get_or user i 0)) was
    ∙ ap (λ l. name_for (take i user) ++ l) (sym (append-nil (letters_of (get_or user i 0))))
    ∙ sym (name_for-append (take i user) (get_or user i 0 ∷ [])) ∙ ap name_for (sym (take_more user i 0 h))

-- a - does not stand for itself
not_dash : (b : ℕ) → b ≡ 45 → is_plain b ≡ true → ⊥
not_dash b is plain = absurd (true≢false (sym plain ∙ ap is_plain is))

-- a digit stands for its number
number_of-digit_of : (n : ℕ) → n < 16 → number_of (digit_of n) ≡ n
number_of-digit_of n h = grind arith

-- the digits of a byte stand for it
digits_lead : (b : ℕ) → b < 256 → (number_of (digit_of (b / 16)) * 16 + number_of (digit_of (b % 16))) % 256 ≡ b
digits_lead b h =
    rw (number_of-digit_of (b / 16) (omega arith), number_of-digit_of (b % 16) (omega arith)) (omega arith)

-- a user so far, and no open escape
abbrev read_so : List ℕ → Reading
read_so user = record { user = user; escape = Without }

-- the letters of a byte lead to it
letters_lead : (user : List ℕ) (b : ℕ) → b < 256 → fold read (read_so user) (letters_of b) ≡ read_so (user ++ b ∷ [])
letters_lead user b h =
    split (is_plain b)
    (λ t. rw t (plain_leads (eqb b 45) refl t))
    (λ f. rw f (split (eqb b 45) (λ t. rw t (ends 45 t)) (λ f1. rw f1
    (split (eqb b 46) (λ t. rw t (ends 46 t)) (λ f2. rw f2
    (split (eqb b 64) (λ t. rw t (ends 64 t)) (λ f3. rw f3
    (split (eqb b 95) (λ t. rw t (ends 95 t)) (λ f4. rw f4
    (split (eqb b 43) (λ t. rw t (ends 43 t)) (λ f5. rw f5 digits)))))))))))
  where
    ends : (n : ℕ) → eqb b n ≡ true → read_so (user ++ n ∷ []) ≡ read_so (user ++ b ∷ [])
    ends n t = ap (λ m. read_so (user ++ m ∷ [])) (sym (eqb-true b n t))

    plain_leads : (dash : Bool) → eqb b 45 ≡ dash → is_plain b ≡ true
        → cond {A = Reading} dash (record { user = user; escape = Dash }) (read_so (user ++ b ∷ [])) ≡ read_so (user ++ b ∷ [])
    plain_leads true is plain = absurd (not_dash b (eqb-true b 45 is) plain)
    plain_leads false is plain = refl

    digits : read_so (user ++ ((number_of (digit_of (b / 16)) * 16 + number_of (digit_of (b % 16))) % 256) ∷ [])
        ≡ read_so (user ++ b ∷ [])
    digits = ap (λ m. read_so (user ++ m ∷ [])) (digits_lead b h)

-- the letters of a name lead to its user
name_leads : (user rest : List ℕ) → AreBytes rest → fold read (read_so user) (name_for rest) ≡ read_so (user ++ rest)
name_leads user [] h = ap read_so (sym (append-nil user))
name_leads user (b ∷ bs) (is, are) =
    fold-append read (read_so user) (letters_of b) (name_for bs)
    ∙ ap (λ r. fold read r (name_for bs)) (letters_lead user b is)
    ∙ name_leads (user ++ b ∷ []) bs are
    ∙ ap read_so (append_assoc user (b ∷ []) bs)

pub leads_back : (user : List ℕ) → AreBytes user → bytes_in (name_for user) ≡ user
leads_back user h = ap (λ (r : Reading). r.user) (name_leads [] user h)

-- two users with one name are one
pub one_user : OneUserLaw
one_user one other h h' same = sym (leads_back one h) ∙ ap bytes_in same ∙ leads_back other h'

-- a name that is made from a user tells that user
tells : (user : List ℕ) → AreBytes user → user_for (name_for user) ≡ Some user
tells user h =
    rw (leads_back user h) (cond-true _ _ _ ((bytes_eq-Decides (name_for user) (name_for user)).1 refl))

-- a name that tells a user is the one that is made from it
tells_made : (name user : List ℕ) → user_for name ≡ Some user → name_for user ≡ name
tells_made name user told =
    split (bytes_eq (name_for (bytes_in name)) name)
    (λ t. let same : bytes_in name ≡ user = same_Some _ _ (sym (cond-true _ _ _ t) ∙ told) in
    ap name_for (sym same) ∙ (bytes_eq-Decides (name_for (bytes_in name)) name).0 t)
    (λ f. let none = sym (cond-false _ _ _ f) ∙ told in cc)

pub tells_user : TellsUserLaw
tells_user = (tells, tells_made)
