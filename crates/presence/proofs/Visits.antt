-- The visits of a pad, as the entries of the map that keeps them.
use Rattle.std.proofs.Common.{◌≡◌, ℕ, ◌+◌, ◌<◌, Bool, true, false, not, ◌||◌, List, [], ◌∷◌, ◌++◌, Option, None}
use Rattle.std.proofs.Common.{length, Some, Ok, Err, is_some, refl, sym, ap, ap₂, subst, ◌∙◌, arith, nat_eq, bytes_eq}
use Rattle.std.specs.List.{AllByRecursion, filter, list_any}
use Rattle.std.specs.Map.{lookup, remove_entry, set_value}
use Rattle.std.proofs.lemmas.Bool.{ne_eqb, eqb-true, cond-true, cond-false}
use Rattle.std.proofs.lemmas.List.{length-map}
use Rattle.std.proofs.lemmas.Option.{same_Some}
use Rattle.indexmap.proofs.CallerLemmas.{insert_entry-new}
use Rattle.indexmap.specs.IndexMap.{IndexMap, insert_entry}
use Rattle.pad_model.specs.Stamp.{Stamp}
use Rattle.pad_model.specs.declared.refusal.Refusal.TheVariants.{NotJoined}
use Rattle.pad_model.proofs.Newer.{split}
use Rattle.pad_model.proofs.Each.{each-append, each-imply}
use Rattle.presence.specs.declared.presence.Visit.{Visit}
use Rattle.presence.specs.declared.presence.Visitor.{Visitor}
use Rattle.presence.specs.Presence.{Presence, joined, OnVisit, AreNumbered, has_number, left, with_caret}
use Rattle.presence.specs.Presence.{is_by_owner, is_joined_by}
use Rattle.presence.specs.Inside.{visit_of, visits_of}
use Rattle.rights.specs.Rights.{Rights, may}
use Rattle.rights.specs.declared.right.Right.TheVariants.{Own}

-- a visit is present if its entry is found
pub present_where_found : (n : ℕ) (es : List (ℕ × Visitor)) → list_any (has_number n) (visits_of es)
    ≡ is_some (lookup (nat_eq n) es)
present_where_found n [] = refl
present_where_found n (e ∷ es) = split (nat_eq n e.0) (λ t. rw t refl) (λ f. rw f (present_where_found n es))

-- a number above the last one is not found
pub new_number : (last n : ℕ) (es : List (ℕ × Visitor)) → AreNumbered last (visits_of es) → last < n →
    lookup (nat_eq n) es ≡ None
new_number last n [] h lt = refl
new_number last n (e ∷ es) h lt = rw (ne_eqb n e.0 (λ same. omega (arith, h.1))) (new_number last n es h.3 lt)

-- those with other numbers all stay
others_stay : (n : ℕ) (vs : List Visit) → AllByRecursion (λ v. n < v.number) vs → left n vs ≡ vs
others_stay n [] h = refl
others_stay n (v ∷ vs) h = rw (ne_eqb n v.number (λ same. omega (arith, h.0)))
    (ap (λ (r : List Visit). v ∷ r) (others_stay n vs h.1))

pub left_entries : (last n : ℕ) (es : List (ℕ × Visitor)) → AreNumbered last (visits_of es) →
    visits_of (remove_entry (nat_eq n) es) ≡ left n (visits_of es)
left_entries last n [] h = refl
left_entries last n (e ∷ es) h =
    split (nat_eq n e.0)
    (λ t. rw t (sym (others_stay n (visits_of es)
    (each-imply (λ (v : Visit). e.0 < v.number) (λ (v : Visit). n < v.number) (λ v lt. omega (arith, eqb-true n e.0 t))
    _ h.2))))
    (λ f. rw f (ap (λ (r : List Visit). visit_of e.0 e.1 ∷ r) (left_entries last n es h.3)))

each_kept : (P : Visit → Type 0) (keeps : Visit → Bool) (vs : List Visit) → AllByRecursion P vs →
    AllByRecursion P (filter keeps vs)
each_kept P keeps [] h = tt
each_kept P keeps (v ∷ vs) h = split (keeps v) (λ t. rw t (h.0, each_kept P keeps vs h.1))
    (λ f. rw f (each_kept P keeps vs h.1))

-- some of the visits, in their order, are numbered as all are
pub kept_numbered : (keeps : Visit → Bool) (last : ℕ) (vs : List Visit) → AreNumbered last vs →
    AreNumbered last (filter keeps vs)
kept_numbered keeps last [] h = tt
kept_numbered keeps last (v ∷ vs) h =
    split (keeps v)
    (λ t. rw t (
      h.0,
      h.1,
      each_kept (λ (later : Visit). v.number < later.number) keeps vs h.2,
      kept_numbered keeps last vs h.3,
    ))
    (λ f. rw f (kept_numbered keeps last vs h.3))

pub left_numbered : (last n : ℕ) (vs : List Visit) → AreNumbered last vs → AreNumbered last (left n vs)
left_numbered last n vs h = kept_numbered (λ visit. not (has_number n visit)) last vs h

-- the visits of those entries whose authors may own the pad
pub owners_entries : (rights : Rights) (es : List (ℕ × Visitor)) →
    visits_of (filter (λ entry. may rights entry.1.author Own) es) ≡ filter (is_by_owner rights) (visits_of es)
owners_entries rights [] = refl
owners_entries rights (e ∷ es) =
    split (may rights e.1.author Own)
    (λ t. rw t (ap (λ (r : List Visit). visit_of e.0 e.1 ∷ r) (owners_entries rights es)))
    (λ f. rw f (owners_entries rights es))

-- those with other numbers keep their carets
others_keep : (c : Option Stamp) (n : ℕ) (vs : List Visit) → AllByRecursion (λ v. n < v.number) vs → with_caret c n vs
    ≡ vs
others_keep c n [] h = refl
others_keep c n (v ∷ vs) h = rw (ne_eqb n v.number (λ same. omega (arith, h.0)))
    (ap (λ (r : List Visit). v ∷ r) (others_keep c n vs h.1))

pub caret_entries : (c : Option Stamp) (last n : ℕ) (es : List (ℕ × Visitor)) (w : Visitor) →
    AreNumbered last (visits_of es) → lookup (nat_eq n) es ≡ Some w
    → visits_of (set_value (nat_eq n) es (record w { caret = c })) ≡ with_caret c n (visits_of es)
caret_entries c last n [] w h at = refl
caret_entries c last n (e ∷ es) w h at =
    split (nat_eq n e.0)
    (λ t.
    let same : e.1 ≡ w = same_Some _ _ (sym (cond-true _ _ _ t) ∙ at) in
    rw t (rw same (ap (λ (r : List Visit). visit_of e.0 (record w { caret = c }) ∷ r)
    (sym (others_keep c n (visits_of es) (each-imply (λ (v : Visit). e.0 < v.number) (λ (v : Visit). n < v.number)
    (λ v lt. omega (arith, eqb-true n e.0 t)) _ h.2))))))
    (λ f. rw f (ap (λ (r : List Visit). visit_of e.0 e.1 ∷ r)
    (caret_entries c last n es w h.3 (sym (cond-false _ _ _ f) ∙ at))))

each_keeps : (c : Option Stamp) (m n : ℕ) (vs : List Visit) → AllByRecursion (λ v. m < v.number) vs →
    AllByRecursion (λ v. m < v.number) (with_caret c n vs)
each_keeps c m n [] h = tt
each_keeps c m n (v ∷ vs) h = split (nat_eq n v.number) (λ t. rw t (h.0, each_keeps c m n vs h.1))
    (λ f. rw f (h.0, each_keeps c m n vs h.1))

pub caret_numbered : (c : Option Stamp) (last n : ℕ) (vs : List Visit) → AreNumbered last vs →
    AreNumbered last (with_caret c n vs)
caret_numbered c last n [] h = tt
caret_numbered c last n (v ∷ vs) h =
    let later = each_keeps c v.number n vs h.2 in
    split (nat_eq n v.number)
    (λ t. rw t (h.0, h.1, later, caret_numbered c last n vs h.3))
    (λ f. rw f (h.0, h.1, later, caret_numbered c last n vs h.3))

-- one more, whose number is the next
pub joined_numbered : (last : ℕ) (vs : List Visit) (v : Visit) → AreNumbered last vs → v.number ≡ last + 1 →
    AreNumbered (last + 1) (vs ++ v ∷ [])
joined_numbered last [] v h e = (omega (arith, e), omega (arith, e), tt, tt)
joined_numbered last (x ∷ vs) v h e = (
  h.0,
  omega (arith, h.1),
  each-append (λ (later : Visit). x.number < later.number) vs (v ∷ []) h.2
      (omega (arith, h.1, e), tt),
  joined_numbered last vs v h.3 e,
)

-- the author of a visit is that of its entry
pub author_where_found : (author : List ℕ) (last n : ℕ) (es : List (ℕ × Visitor)) (w : Visitor) →
    AreNumbered last (visits_of es) → lookup (nat_eq n) es ≡ Some w
    → is_joined_by n author (visits_of es) ≡ bytes_eq w.author author
author_where_found author last n [] w h at = cc
author_where_found author last n (e ∷ es) w h at =
    split (nat_eq n e.0)
    (λ t.
    let same : e.1 ≡ w = same_Some _ _ (sym (cond-true _ _ _ t) ∙ at) in
    let later = each-imply (λ (v : Visit). e.0 < v.number) (λ (v : Visit). n < v.number)
    (λ v lt. omega (arith, eqb-true n e.0 t)) _ h.2 in
    rw t (rw same (rw (no_other author n (visits_of es) later) (or_nothing (bytes_eq w.author author)))))
    (λ f. rw f (author_where_found author last n es w h.3 (sym (cond-false _ _ _ f) ∙ at)))
  where
    or_nothing : (b : Bool) → (b || false) ≡ b
    or_nothing true = refl
    or_nothing false = refl

    no_other : (author : List ℕ) (n : ℕ) (vs : List Visit) → AllByRecursion (λ v. n < v.number) vs →
        is_joined_by n author vs ≡ false
    no_other author n [] h = refl
    no_other author n (v ∷ vs) h = rw (ne_eqb n v.number (λ same. omega (arith, h.0))) (no_other author n vs h.1)

pub nobody_where_absent : (author : List ℕ) (n : ℕ) (es : List (ℕ × Visitor)) → lookup (nat_eq n) es ≡ None →
    is_joined_by n author (visits_of es) ≡ false
nobody_where_absent author n [] at = refl
nobody_where_absent author n (e ∷ es) at =
    split (nat_eq n e.0)
    (λ t. let hit = sym (cond-true _ _ _ t) ∙ at in cc)
    (λ f. rw f (nobody_where_absent author n es (sym (cond-false _ _ _ f) ∙ at)))

-- a change of a visit that is present, and of one that is not
pub done : (n limit given : ℕ) (vs new : List Visit) (authors : List (Option (List ℕ)))
    (change : ℕ → List Visit → List Visit) (old : Presence)
    → record { limit = limit; given = given; present = vs; authors = authors } ≡ old
    → list_any (has_number n) vs ≡ true → new ≡ change n vs
    → OnVisit n old (record { limit = limit; given = given; present = new; authors = authors }) (Ok tt) change
done n limit given vs new authors change old is there e =
    let with_visits : List Visit → Presence =
    λ r. record { limit = limit; given = given; present = r; authors = authors } in
    subst (λ (p : Presence). OnVisit n p (with_visits new) (Ok tt) change) is (there, ap with_visits e)

pub refused : (n limit given : ℕ) (vs new : List Visit) (authors : List (Option (List ℕ)))
    (change : ℕ → List Visit → List Visit) (old : Presence)
    → record { limit = limit; given = given; present = vs; authors = authors } ≡ old
    → list_any (has_number n) vs ≡ false → new ≡ vs
    → OnVisit n old (record { limit = limit; given = given; present = new; authors = authors }) (Err NotJoined) change
refused n limit given vs new authors change old is absent e =
    let with_visits : List Visit → Presence =
    λ r. record { limit = limit; given = given; present = r; authors = authors } in
    subst (λ (p : Presence). OnVisit n p (with_visits new) (Err NotJoined) change) is (absent, refl, ap with_visits e)

-- the next visit, after those that are present
pub enter_done : (author : List ℕ) (limit given number : ℕ) (vs new : List Visit)
    (authors after : List (Option (List ℕ))) (old : Presence)
    → record { limit = limit; given = given; present = vs; authors = authors } ≡ old → number ≡ given + 1
    → new ≡ vs ++ record { number = number; author = author; caret = None } ∷ [] → after ≡ authors ++ Some author ∷ []
    → record { limit = limit; given = number; present = new; authors = after } ≡ joined author old
enter_done author limit given number vs new authors after old is n e a =
    let next : ℕ → List Visit → List (Option (List ℕ)) → Presence =
    λ k r s. record { limit = limit; given = k; present = r; authors = s } in
    let last = e ∙ ap (λ (k : ℕ). vs ++ record { number = k; author = author; caret = None } ∷ []) n in
    subst (λ (p : Presence). next number new after ≡ joined author p) is
    (ap (λ (k : ℕ). next k new after) n ∙ ap₂ (next (given + 1)) last a)

-- the numbers are at most a greater one
pub more_numbered : (last : ℕ) (vs : List Visit) → AreNumbered last vs → AreNumbered (last + 1) vs
more_numbered last [] h = tt
more_numbered last (v ∷ vs) h = (h.0, omega (arith, h.1), h.2, more_numbered last vs h.3)

-- fewer are present without a visit that is found, and as many without another
pub fewer_where_found : (last n : ℕ) (es : List (ℕ × Visitor)) → AreNumbered last (visits_of es) →
    is_some (lookup (nat_eq n) es) ≡ true → length (left n (visits_of es)) + 1 ≡ length es
fewer_where_found last n [] h at = cc
fewer_where_found last n (e ∷ es) h at =
    split (nat_eq n e.0)
    (λ t. rw t (rw (others_stay n (visits_of es)
    (each-imply (λ (v : Visit). e.0 < v.number) (λ (v : Visit). n < v.number) (λ v lt. omega (arith, eqb-true n e.0 t))
    _ h.2)) (omega (arith, length-map es (λ entry. visit_of entry.0 entry.1)))))
    (λ f. rw f (omega (arith, fewer_where_found last n es h.3 (sym (ap is_some (cond-false _ _ _ f)) ∙ at))))

pub all_where_absent : (n : ℕ) (es : List (ℕ × Visitor)) → is_some (lookup (nat_eq n) es) ≡ false →
    left n (visits_of es) ≡ visits_of es
all_where_absent n [] at = refl
all_where_absent n (e ∷ es) at =
    split (nat_eq n e.0)
    (λ t. let hit = sym (ap is_some (cond-true _ _ _ t)) ∙ at in cc)
    (λ f. rw f (ap (λ (r : List Visit). visit_of e.0 e.1 ∷ r)
    (all_where_absent n es (sym (ap is_some (cond-false _ _ _ f)) ∙ at))))

-- one more entry is one more visit
pub joined_entries : (es : List (ℕ × Visitor)) (n : ℕ) (w : Visitor) → visits_of (es ++ (n, w) ∷ []) ≡ visits_of es
    ++ visit_of n w ∷ []
joined_entries [] n w = refl
joined_entries (e ∷ es) n w = ap (λ (r : List Visit). visit_of e.0 e.1 ∷ r) (joined_entries es n w)

-- an entry with the next number is put in after those that stay
pub seated : {S : Type 0} (m : IndexMap ℕ Visitor S) (after stay : List (ℕ × Visitor)) (given number : ℕ)
    (w : Visitor) → m.entries ≡ stay → AreNumbered given (visits_of stay) → number ≡ given + 1
    → after ≡ insert_entry nat_eq m.entries number w → visits_of after ≡ visits_of stay ++ visit_of number w ∷ []
seated m after stay given number w kept h next put =
    let numbered = subst (λ (es : List (ℕ × Visitor)). AreNumbered given (visits_of es)) (sym kept) h in
    let none = new_number given number m.entries numbered (omega arith) in
    ap visits_of (put ∙ insert_entry-new nat_eq m number w none) ∙ joined_entries m.entries number w
    ∙ ap (λ (es : List (ℕ × Visitor)). visits_of es ++ visit_of number w ∷ []) kept

-- the numbers rise up to the next one
pub seated_numbered : (given number : ℕ) (after stay : List Visit) (v : Visit) → AreNumbered given stay
    → number ≡ given + 1 → v.number ≡ number → after ≡ stay ++ v ∷ [] → AreNumbered number after
seated_numbered given number after stay v h next named last =
    subst (λ (n : ℕ). AreNumbered n after) (sym next)
    (subst (λ (vs : List Visit). AreNumbered (given + 1) vs) (sym last)
    (joined_numbered given stay v h (named ∙ next)))
