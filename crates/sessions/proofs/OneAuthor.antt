-- By an accounts file, two users of a proxy who are one author are one user.
use Rattle.std.proofs.Common.{◌≡◌, ◌⊎◌, inl, inr, ℕ, ◌+◌, Bool, true, false, not, cond, ◌∷◌, [], List, Option, None, Some, Result, Ok, Err, codes, refl, sym, ap, ◌∙◌, subst, leb, length, bytes_eq, true≢false}
use Rattle.std.specs.List.{list_any}
use Rattle.std.specs.Option.{is_some}
use Rattle.std.specs.Map.{lookup}
use Rattle.std.specs.Str.Lines.{lines}
use Rattle.std.proofs.lemmas.Bool.{cond-true, cond-false, or_right}
use Rattle.std.proofs.lemmas.Option.{same_Some}
use Rattle.std.proofs.lemmas.Slice.Eq.{bytes_eq-Decides}
use Rattle.indexmap.specs.IndexMap.{insert_entry}
use Rattle.pad_model.proofs.Newer.{split}
use Rattle.pad_model.specs.Checked.{is_name}
use Rattle.sessions.specs.Accounts.{Accounts, after_line, has_name, has_number, is_full, no_accounts, with_author, with_line, with_lines, with_people}
use Rattle.sessions.specs.AccountsFile.{Said, an_author, a_hash, a_peer, a_person, meaning, nothing}
use Rattle.sessions.specs.People.{People, author_of, display_of, no_people, with_id, with_person}
use Rattle.sessions.specs.UserLaws.{OneAuthorLaw}
use Rattle.sessions.specs.UserNames.{name_for}
use Rattle.sessions.specs.Users.{author_or_stranger, by_person, is_for_users, is_given}
use Rattle.sessions.specs.declared.mistake.Mistake.{Mistake}
use Rattle.sessions.specs.declared.secret.Secret.{Secret}
use Rattle.sessions.specs.declared.people.TheConstants.{MAX_PEOPLE}
use Rattle.sessions.proofs.UserNames.{one_user}

same_Ok : {A E : Type 0} (x y : A) → ◌≡◌ {A = Result A E} (Ok x) (Ok y) → x ≡ y
same_Ok x y same = cc

-- what an entry that was added is found by
module _ (k v q : List ℕ) where
  lookup_added : (es : List (List ℕ × List ℕ)) → lookup (bytes_eq q) (insert_entry bytes_eq es k v)
      ≡ cond (bytes_eq q k) (Some v) (lookup (bytes_eq q) es)
  lookup_added [] = refl
  lookup_added (e ∷ es) =
      split (bytes_eq k e.0)
      (λ t. ap (lookup (bytes_eq q)) (cond-true _ _ _ t) ∙ found (bytes_eq q e.0) (bytes_eq q k)
      (ap (bytes_eq q) (sym ((bytes_eq-Decides k e.0).0 t))))
      (λ f. ap (lookup (bytes_eq q)) (cond-false _ _ _ f) ∙ ap (cond (bytes_eq q e.0) (Some e.1)) (lookup_added es)
      ∙ passed f)
    where
      found : (there new : Bool) → there ≡ new → cond there (Some v) (lookup (bytes_eq q) es)
          ≡ cond new (Some v) (cond there (Some e.1) (lookup (bytes_eq q) es))
      found true new is = sym (cond-true _ _ _ (sym is))
      found false new is = sym (cond-false _ _ _ (sym is))

      passed : bytes_eq k e.0 ≡ false
          → cond (bytes_eq q e.0) (Some e.1) (cond (bytes_eq q k) (Some v) (lookup (bytes_eq q) es))
          ≡ cond (bytes_eq q k) (Some v) (cond (bytes_eq q e.0) (Some e.1) (lookup (bytes_eq q) es))
      passed f =
          split (bytes_eq q e.0)
          (λ t. let other : bytes_eq q k ≡ false = split (bytes_eq q k)
          (λ both. absurd (true≢false (sym ((bytes_eq-Decides k e.0).1 (sym ((bytes_eq-Decides q k).0 both)
          ∙ (bytes_eq-Decides q e.0).0 t)) ∙ f))) (λ off. off) in
          rw (t, other) refl)
          (λ off. rw off refl)

-- each name has one ID, and a display name
record AreApart (p : People) : Type 0 where
  once : (one other name : List ℕ) → author_of one p ≡ Some name → author_of other p ≡ Some name → one ≡ other
  shown : (id name : List ℕ) → author_of id p ≡ Some name → is_some (display_of name p) ≡ true

nobody_apart : AreApart no_people
nobody_apart = record { once = λ one other name is. absurd (cc); shown = λ id name is. absurd (cc) }

-- a person more
module _ (name id display : List ℕ) (p : People) (new : is_some (display_of name p) ≡ false) where
  abbrev after : People
  after = record { displays = insert_entry bytes_eq p.displays name display; names = with_id p.names id name }

  -- who has an ID afterwards had it before, or is the one who was added
  came : (q n : List ℕ) → author_of q after ≡ Some n → (author_of q p ≡ Some n) ⊎ ((q ≡ id) × (n ≡ name))
  came q n is =
      split (bytes_eq id (codes "-"))
      (λ t. inl (ap (lookup (bytes_eq q)) (sym (cond-true _ _ _ t)) ∙ is))
      (λ f.
      let found = sym (lookup_added id name q p.names) ∙ ap (lookup (bytes_eq q)) (sym (cond-false _ _ _ f)) ∙ is in
      split (bytes_eq q id)
      (λ t. inr ((bytes_eq-Decides q id).0 t, sym (same_Some _ _ (sym (cond-true _ _ _ t) ∙ found))))
      (λ off. inl (sym (cond-false _ _ _ off) ∙ found)))

  shown_after : (n : List ℕ) → display_of n after ≡ cond (bytes_eq n name) (Some display) (display_of n p)
  shown_after n = lookup_added name display n p.displays

  apart_after : AreApart p → AreApart after
  apart_after old = record {
    once = λ one other n first second. elim (came one n first) [
      | inl was ↦ elim (came other n second) [
        | inl is ↦ old.once one other n was is
        | inr is ↦ absurd (taken one n was is.1)
      ]
      | inr was ↦ elim (came other n second) [
        | inl is ↦ absurd (taken other n is was.1)
        | inr is ↦ was.0 ∙ sym is.0
      ]
    ];
    shown = λ q n is. elim (came q n is) [
      | inl was ↦ still n (old.shown q n was)
      | inr was ↦ ap is_some (shown_after n ∙ cond-true _ _ _ ((bytes_eq-Decides n name).1 was.1))
    ];
  }
    where
      taken : (q n : List ℕ) → author_of q p ≡ Some n → n ≡ name → ⊥
      taken q n was is = true≢false (sym (old.shown q n was) ∙ ap (λ m. is_some (display_of m p)) is ∙ new)

      still : (n : List ℕ) → is_some (display_of n p) ≡ true → is_some (display_of n after) ≡ true
      still n is = ap is_some (shown_after n) ∙ by (bytes_eq n name) is
        where
          by : (b : Bool) → is_some (display_of n p) ≡ true → is_some (cond b (Some display) (display_of n p)) ≡ true
          by true is = refl
          by false is = is

person_apart : (name id display : List ℕ) (p new : People) → AreApart p → with_person name id display p ≡ Ok new
    → AreApart new
person_apart name id display p new old is =
    split (leb MAX_PEOPLE (length p.displays))
    (λ t. let off = sym (cond-true _ _ _ t) ∙ is in absurd (cc))
    (λ f. let is1 = sym (cond-false _ _ _ f) ∙ is in
    split (is_some (display_of name p))
    (λ t. let off = sym (cond-true _ _ _ t) ∙ is1 in absurd (cc))
    (λ f1. let is2 = sym (cond-false _ _ _ f1) ∙ is1 in
    split (is_some (author_of id p))
    (λ t. let off = sym (cond-true _ _ _ t) ∙ is2 in absurd (cc))
    (λ f2. let is3 = sym (cond-false _ _ _ f2) ∙ is2 in
    subst AreApart (same_Ok _ _ is3) (opened name id display p f1 old))))
  where
    opened : (name id display : List ℕ) (p : People) (f : is_some (display_of name p) ≡ false) → AreApart p
        → AreApart (record { displays = insert_entry bytes_eq p.displays name display; names = with_id p.names id name })
    opened name id display p f old = apart_after name id display p f old

-- a line more
author_apart : (a b : Accounts) (name : List ℕ) (secret : Secret) → with_author a name secret ≡ Ok b → b.people ≡ a.people
author_apart a b name secret is =
    split (is_full a)
    (λ t. let off = sym (cond-true _ _ _ t) ∙ is in absurd (cc))
    (λ f. let is1 = sym (cond-false _ _ _ f) ∙ is in
    split (list_any (has_name name) a.authors)
    (λ t. let off = sym (cond-true _ _ _ t) ∙ is1 in absurd (cc))
    (λ f1. ap (λ (x : Accounts). x.people) (sym (same_Ok _ _ (sym (cond-false _ _ _ f1) ∙ is1)))))

line_apart : (a b : Accounts) (line : Result Said Mistake) → AreApart a.people → with_line a line ≡ Ok b → AreApart b.people
line_apart a b (Ok nothing) old is = subst (λ (x : Accounts). AreApart x.people) (same_Ok _ _ is) old
line_apart a b (Ok (an_author name token)) old is = subst AreApart (sym (author_apart a b name _ is)) old
line_apart a b (Ok (a_hash name hash)) old is = subst AreApart (sym (author_apart a b name _ is)) old
line_apart a b (Ok (a_peer number token address)) old is =
    split (is_full a)
    (λ t. let off = sym (cond-true _ _ _ t) ∙ is in absurd (cc))
    (λ f. let is1 = sym (cond-false _ _ _ f) ∙ is in
    split (list_any (has_number number) a.peers)
    (λ t. let off = sym (cond-true _ _ _ t) ∙ is1 in absurd (cc))
    (λ f1. subst AreApart (ap (λ (x : Accounts). x.people) (same_Ok _ _ (sym (cond-false _ _ _ f1) ∙ is1))) old))
line_apart a b (Ok (a_person name id display)) old is = by (with_person name id display a.people) refl is
  where
    by : (r : Result People Mistake) → with_person name id display a.people ≡ r → with_people a r ≡ Ok b → AreApart b.people
    by (Ok people) made is = subst (λ (x : Accounts). AreApart x.people) (same_Ok _ _ is)
        (person_apart name id display a.people people old made)
    by (Err mistake) made is = absurd (cc)
line_apart a b (Err mistake) old is = absurd (cc)

lines_apart : (texts : List (List ℕ)) (a b : Accounts) (number : ℕ) → AreApart a.people → with_lines a number texts ≡ Ok b
    → AreApart b.people
lines_apart [] a b number old is = subst (λ (x : Accounts). AreApart x.people) (same_Ok _ _ is) old
lines_apart (text ∷ texts) a b number old is =
    by (λ more apart rest. lines_apart texts more b (number + 1) apart rest) (with_line a (meaning text)) refl is
  where
    by : ((more : Accounts) → AreApart more.people → with_lines more (number + 1) texts ≡ Ok b → AreApart b.people)
        → (r : Result Accounts Mistake) → with_line a (meaning text) ≡ r
        → after_line number (λ more. with_lines more (number + 1) texts) r ≡ Ok b → AreApart b.people
    by next (Ok more) made is = next more (line_apart a more (meaning text) old made) is
    by next (Err mistake) made is = absurd (cc)

-- where an author's name comes from
comes_from : (user name : List ℕ) (a : Accounts) → author_or_stranger user a ≡ Ok name
    → (author_of user a.people ≡ Some name) ⊎ ((name_for user ≡ name) × (is_given name a ≡ false))
unfolding author_or_stranger
comes_from user name a is = by (author_of user a.people) refl is
  where
    by : (r : Option (List ℕ)) → author_of user a.people ≡ r → by_person r user a ≡ Ok name
        → (author_of user a.people ≡ Some name) ⊎ ((name_for user ≡ name) × (is_given name a ≡ false))
    by (Some own) found is =
        split (is_name own)
        (λ t. inl (found ∙ ap Some (same_Ok _ _ (sym (cond-true _ _ _ t) ∙ is))))
        (λ f. let off = sym (cond-false _ _ _ f) ∙ is in absurd (cc))
    by None found is =
        split (not a.any_user)
        (λ t. let off = sym (cond-true _ _ _ t) ∙ is in absurd (cc))
        (λ f. let is1 = sym (cond-false _ _ _ f) ∙ is in
        split (not (is_for_users (name_for user)))
        (λ t. let off = sym (cond-true _ _ _ t) ∙ is1 in absurd (cc))
        (λ f1. let is2 = sym (cond-false _ _ _ f1) ∙ is1 in
        split (is_given (name_for user) a)
        (λ t. let off = sym (cond-true _ _ _ t) ∙ is2 in absurd (cc))
        (λ f2. let same : name_for user ≡ name = same_Ok _ _ (sym (cond-false _ _ _ f2) ∙ is2) in
        inr (same, ap (λ n. is_given n a) (sym same) ∙ f2))))

pub one_author : OneAuthorLaw
one_author file read any guests one other name is bytes others first second =
    let a : Accounts = record read { any_user = any; guests = guests } in
    let apart = lines_apart (lines file) no_accounts read 1 nobody_apart is in
    elim (comes_from one name a first) [
      | inl was ↦ elim (comes_from other name a second) [
        | inl also ↦ apart.once one other name was also
        | inr made ↦ absurd (given a one apart was made.1)
      ]
      | inr was ↦ elim (comes_from other name a second) [
        | inl also ↦ absurd (given a other apart also was.1)
        | inr made ↦ one_user one other bytes others (was.0 ∙ sym made.0)
      ]
    ]
  where
    given : (a : Accounts) (user : List ℕ) → AreApart a.people → author_of user a.people ≡ Some name
        → is_given name a ≡ false → ⊥
    given a user apart found off = true≢false (sym (or_right _ _ (apart.shown user name found)) ∙ off)
