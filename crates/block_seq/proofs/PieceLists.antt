-- Changes that grow at their end are the fewest of all so far.
use Rattle.std.proofs.Common.{◌≡◌, ℕ, ◌+◌, true, false, List, [], ◌∷◌, ◌++◌, refl, sym, ap}
use Rattle.std.proofs.Common.{flat_map, ◌∙◌, arith, sum_by, Some, None, append_assoc, append-nil}
use Rattle.pad_model.specs.Pieces.{are_alike, fewest, join_piece, together, old_len}
use Rattle.pad_model.specs.declared.piece.Piece.{Piece}
use Rattle.pad_model.specs.declared.piece.Piece.TheVariants.{Keep, Drop, Insert}
use Rattle.pad_model.specs.declared.who.Author.{Author}
use Rattle.pad_model.proofs.Newer.{split}
use Rattle.std.proofs.lemmas.List.Sums.{sum_by-cons}
use Rattle.pad_model.proofs.Pieces.{old-together, alike-left, alike-right, together_assoc}
use Rattle.block_seq.specs.PieceLists.{dropped_in, kept_in, longer_by, with_piece, with_pieces}

join-with : (d c : Piece) (cs : List Piece) → join_piece d (with_piece cs c) ≡ with_piece (join_piece d cs) c
join-with d c [] = refl
join-with d c (x ∷ []) =
    split (are_alike d x)
    (λ e. split (are_alike x c)
    (λ f. let l = alike-left d x c e ∙ f in let r = alike-right d x c f ∙ e in
    rw (e, f, l, r) (ap (λ y. y ∷ []) (together_assoc d x c e f)))
    (λ f. let l = alike-left d x c e ∙ f in rw (e, f, l, e) refl))
    (λ e. split (are_alike x c)
    (λ f. let r = alike-right d x c f ∙ e in rw (e, f, r) refl)
    (λ f. rw (e, f, e) refl))
join-with d c (x ∷ y ∷ cs) = split (are_alike d x) (λ e. rw e refl) (λ e. rw e refl)

pub fewest-then : (done : List Piece) (c : Piece) → fewest (done ++ c ∷ []) ≡ with_piece (fewest done) c
fewest-then [] c = refl
fewest-then (d ∷ done) c = ap (join_piece d) (fewest-then done c) ∙ join-with d c (fewest done)

pub fewest-more : (done more : List Piece) → fewest (done ++ more) ≡ with_pieces (fewest done) more
fewest-more done [] = ap fewest (append-nil done)
fewest-more done (c ∷ more) =
    ap fewest (sym (append_assoc done (c ∷ []) more)) ∙ fewest-more (done ++ c ∷ []) more
    ∙ ap (λ l. with_pieces l more) (fewest-then done c)

pub sum-with : (cs : List Piece) (c : Piece) → sum_by old_len (with_piece cs c) ≡ sum_by old_len cs + old_len c
sum-with [] c = sum_by-cons old_len c [] ∙ (let m : old_len c + 0 ≡ 0 + old_len c = omega arith in m)
sum-with (x ∷ []) c = split (are_alike x c)
    (λ e. let both = old-together x c e in rw e (omega (arith, both)))
    (λ e. rw e (omega arith))
sum-with (x ∷ y ∷ cs) c =
    let rest = sum-with (y ∷ cs) c in
    rw (sum_by-cons old_len x (with_piece (y ∷ cs) c), sum_by-cons old_len x (y ∷ cs)) (omega (arith, rest))

pub sum-withs : (cs more : List Piece) → sum_by old_len (with_pieces cs more) ≡ sum_by old_len cs
    + sum_by old_len more
sum-withs cs [] = let m : sum_by old_len cs ≡ sum_by old_len cs + 0 = omega arith in m
sum-withs cs (c ∷ more) =
    let one = sum-with cs c in
    let rest = sum-withs (with_piece cs c) more in
    rw (sum_by-cons old_len c more) (omega (arith, one, rest))

-- the last piece takes it, or a new one
pub with-joins : (front : List Piece) (last c : Piece) → are_alike last c ≡ true →
    with_piece (front ++ last ∷ []) c ≡ front ++ together last c ∷ []
with-joins [] last c h = rw h refl
with-joins (x ∷ []) last c h = ap (λ l. x ∷ l) (with-joins [] last c h)
with-joins (x ∷ y ∷ front) last c h = ap (λ l. x ∷ l) (with-joins (y ∷ front) last c h)

pub with-apart : (front : List Piece) (last c : Piece) → are_alike last c ≡ false →
    with_piece (front ++ last ∷ []) c ≡ (front ++ last ∷ []) ++ c ∷ []
with-apart [] last c h = rw h refl
with-apart (x ∷ []) last c h = ap (λ l. x ∷ l) (with-apart [] last c h)
with-apart (x ∷ y ∷ front) last c h = ap (λ l. x ∷ l) (with-apart (y ∷ front) last c h)

-- ---- what kind a piece is of
pub kept-some : (x : Piece) (n len : ℕ) → kept_in x ≡ Some n → x ≡ Keep n
kept-some (Keep m) n len e = cc
kept-some (Drop m) n len e = absurd (cc)
kept-some (Insert a t) n len e = absurd (cc)

pub kept-none : (x : Piece) (len : ℕ) → kept_in x ≡ None → are_alike x (Keep len) ≡ false
kept-none (Keep m) len e = absurd (cc)
kept-none (Drop m) len e = refl
kept-none (Insert a t) len e = refl

pub erased-some : (x : Piece) (n len : ℕ) → dropped_in x ≡ Some n → x ≡ Drop n
erased-some (Keep m) n len e = absurd (cc)
erased-some (Drop m) n len e = cc
erased-some (Insert a t) n len e = absurd (cc)

pub dropped-none : (x : Piece) (len : ℕ) → dropped_in x ≡ None → are_alike x (Drop len) ≡ false
dropped-none (Keep m) len e = refl
dropped-none (Drop m) len e = absurd (cc)
dropped-none (Insert a t) len e = refl

pub alike-text : (x : Piece) (a : Author) (s t : List ℕ) → are_alike x (Insert a s) ≡ are_alike x (Insert a t)
alike-text (Keep m) a s t = refl
alike-text (Drop m) a s t = refl
alike-text (Insert b u) a s t = refl

pub longer-together : (x : Piece) (a : Author) (t : List ℕ) → are_alike x (Insert a t) ≡ true → longer_by x t
    ≡ together x (Insert a t)
longer-together (Keep m) a t h = absurd (cc)
longer-together (Drop m) a t h = absurd (cc)
longer-together (Insert b u) a t h = refl

-- ---- one more kept, or erased
pub keeps : (front : List Piece) (x : Piece) (n len : ℕ) → kept_in x ≡ Some n → front ++ Keep (n + len) ∷ []
    ≡ with_piece (front ++ x ∷ []) (Keep len)
keeps front x n len e = let is = kept-some x n len e in
    rw is (sym (with-joins front (Keep n) (Keep len) refl))

pub drops : (front : List Piece) (x : Piece) (n len : ℕ) → dropped_in x ≡ Some n → front ++ Drop (n + len) ∷ []
    ≡ with_piece (front ++ x ∷ []) (Drop len)
drops front x n len e = let is = erased-some x n len e in
    rw is (sym (with-joins front (Drop n) (Drop len) refl))

pub inserts : (front : List Piece) (x : Piece) (a : Author) (t : List ℕ) → are_alike x (Insert a []) ≡ true →
    front ++ longer_by x t ∷ [] ≡ with_piece (front ++ x ∷ []) (Insert a t)
inserts front x a t h = let alike = alike-text x a t [] ∙ h in
    ap (λ (y : Piece). front ++ y ∷ []) (longer-together x a t alike)
    ∙ sym (with-joins front x (Insert a t) alike)

-- ---- one more step of a walk
pub goes-on : {A : Type 0} (f : A → List Piece) (x : A) (it rest : List A) (done pieces made all : List Piece) →
    it ≡ x ∷ rest → pieces ≡ fewest done → done ++ flat_map f it ≡ all → made ≡ with_pieces pieces (f x)
    → (made ≡ fewest (done ++ f x)) × ((done ++ f x) ++ flat_map f rest ≡ all)
goes-on f x it rest done pieces made all is so_far whole e = (
  e ∙ ap (λ l. with_pieces l (f x)) so_far ∙ sym (fewest-more done (f x)),
  append_assoc done (f x) (flat_map f rest) ∙ ap (λ l. done ++ l) (sym (ap (flat_map f) is)) ∙ whole,
)
