-- Pieces as the fewest, and a text after them.
use Rattle.std.proofs.Common.{◌≡◌, ℕ, zero, suc, ◌+◌, ◌≤◌, ◌<◌, true, false, List, [], ◌∷◌, ◌++◌, length}
use Rattle.std.proofs.Common.{take, drop, map, filter, flat_map, sum_by, refl, sym, ap, ap₂, ◌∙◌, arith, append_assoc}
use Rattle.std.proofs.Math.Seq.{take-add}
use Rattle.std.proofs.Common.{add-one, length-append, nat_le}
use Rattle.std.proofs.lemmas.Bool.{lt-leb}
use Rattle.std.proofs.lemmas.List.{drop-drop}
use Rattle.std.specs.List.{AllByRecursion}
use Rattle.std.proofs.lemmas.Bool.{and_from, and_parts}
use Rattle.std.proofs.lemmas.List.{map-append}
use Rattle.std.proofs.lemmas.List.Sums.{sum_by-cons}
use Rattle.std.proofs.lemmas.Slice.Eq.{bytes_eq-Decides}
use Rattle.pad_model.specs.Cell.{Cell, cells_at, character_of, runs_at, shown_at, text_at}
use Rattle.pad_model.specs.Pieces.{AreApart, are_alike, piece_of, patched, changes, fewest, insertions}
use Rattle.pad_model.specs.Pieces.{join_piece, new_len, old_len, together, written, written_by, written_in}
use Rattle.pad_model.specs.Visible.{join_run, runs, same_author}
use Rattle.pad_model.specs.declared.piece.Piece.{Piece}
use Rattle.pad_model.specs.declared.piece.Piece.TheVariants.{Keep, Drop, Insert}
use Rattle.pad_model.specs.declared.who.Author.{Author}
use Rattle.pad_model.specs.declared.who.AuthorRun.{AuthorRun}
use Rattle.pad_model.proofs.Newer.{split}

pub same_author-true : (a b : Author) → same_author a b ≡ true → a ≡ b
same_author-true a b h =
    let both = and_parts _ _ h in
    ap₂ (λ name origin. let it : Author = record { name = name; origin = origin } in it)
    ((bytes_eq-Decides a.name b.name).0 both.0) (Rattle.std.proofs.Common.eqb-true a.origin b.origin both.1)

pub same_author-refl : (a : Author) → same_author a a ≡ true
same_author-refl a = and_from _ _ ((bytes_eq-Decides a.name a.name).1 refl)
    (Rattle.std.proofs.Common.eq-eqb a.origin a.origin refl)

-- ---- what is alike
pub alike-left : (a b c : Piece) → are_alike a b ≡ true → are_alike (together a b) c ≡ are_alike b c
alike-left (Keep n) (Keep m) (Keep k) h = refl
alike-left (Keep n) (Keep m) (Drop k) h = refl
alike-left (Keep n) (Keep m) (Insert c u) h = refl
alike-left (Keep n) (Drop m) c h = absurd (cc)
alike-left (Keep n) (Insert b t) c h = absurd (cc)
alike-left (Drop n) (Keep m) c h = absurd (cc)
alike-left (Drop n) (Drop m) (Keep k) h = refl
alike-left (Drop n) (Drop m) (Drop k) h = refl
alike-left (Drop n) (Drop m) (Insert c u) h = refl
alike-left (Drop n) (Insert b t) c h = absurd (cc)
alike-left (Insert a s) (Keep m) c h = absurd (cc)
alike-left (Insert a s) (Drop m) c h = absurd (cc)
alike-left (Insert a s) (Insert b t) (Keep k) h = refl
alike-left (Insert a s) (Insert b t) (Drop k) h = refl
alike-left (Insert a s) (Insert b t) (Insert c u) h = ap (λ (x : Author). same_author x c) (same_author-true a b h)

pub alike-right : (a b c : Piece) → are_alike b c ≡ true → are_alike a (together b c) ≡ are_alike a b
alike-right (Keep k) (Keep n) (Keep m) h = refl
alike-right (Drop k) (Keep n) (Keep m) h = refl
alike-right (Insert c u) (Keep n) (Keep m) h = refl
alike-right a (Keep n) (Drop m) h = absurd (cc)
alike-right a (Keep n) (Insert b t) h = absurd (cc)
alike-right a (Drop n) (Keep m) h = absurd (cc)
alike-right (Keep k) (Drop n) (Drop m) h = refl
alike-right (Drop k) (Drop n) (Drop m) h = refl
alike-right (Insert c u) (Drop n) (Drop m) h = refl
alike-right a (Drop n) (Insert b t) h = absurd (cc)
alike-right a (Insert b s) (Keep m) h = absurd (cc)
alike-right a (Insert b s) (Drop m) h = absurd (cc)
alike-right (Keep k) (Insert a s) (Insert b t) h = refl
alike-right (Drop k) (Insert a s) (Insert b t) h = refl
alike-right (Insert c u) (Insert a s) (Insert b t) h = refl

pub together_assoc : (a b c : Piece) → are_alike a b ≡ true → are_alike b c ≡ true →
    together a (together b c) ≡ together (together a b) c
together_assoc (Keep n) (Keep m) (Keep k) h i = ap Keep (let e : n + (m + k) ≡ n + m + k = omega arith in e)
together_assoc (Keep n) (Keep m) (Drop k) h i = absurd (cc)
together_assoc (Keep n) (Keep m) (Insert c u) h i = absurd (cc)
together_assoc (Keep n) (Drop m) c h i = absurd (cc)
together_assoc (Keep n) (Insert b t) c h i = absurd (cc)
together_assoc (Drop n) (Keep m) c h i = absurd (cc)
together_assoc (Drop n) (Drop m) (Drop k) h i = ap Drop (let e : n + (m + k) ≡ n + m + k = omega arith in e)
together_assoc (Drop n) (Drop m) (Keep k) h i = absurd (cc)
together_assoc (Drop n) (Drop m) (Insert c u) h i = absurd (cc)
together_assoc (Drop n) (Insert b t) c h i = absurd (cc)
together_assoc (Insert a s) (Keep m) c h i = absurd (cc)
together_assoc (Insert a s) (Drop m) c h i = absurd (cc)
together_assoc (Insert a s) (Insert b t) (Keep k) h i = absurd (cc)
together_assoc (Insert a s) (Insert b t) (Drop k) h i = absurd (cc)
together_assoc (Insert a s) (Insert b t) (Insert c u) h i = ap (Insert a) (sym (append_assoc s t u))

-- ---- joining in front
pub join-together : (a b : Piece) (zs : List Piece) → are_alike a b ≡ true → join_piece a (join_piece b zs)
    ≡ join_piece (together a b) zs
join-together a b [] h = rw h refl
join-together a b (z ∷ zs) h = split (are_alike b z)
    (λ e. let l = alike-left a b z h ∙ e in let r = alike-right a b z e ∙ h in
    rw (e, l, r) (ap (λ c. c ∷ zs) (together_assoc a b z h e)))
    (λ e. let l = alike-left a b z h ∙ e in rw (e, l, h) refl)

-- ---- no two neighbours
apart-join : (c : Piece) (cs : List Piece) → AreApart cs → AreApart (join_piece c cs)
apart-join c [] h = tt
apart-join c (d ∷ []) h = split (are_alike c d) (λ e. rw e tt) (λ e. rw e (e, tt))
apart-join c (d ∷ f ∷ cs) h = split (are_alike c d)
    (λ e. rw e (alike-left c d f e ∙ h.0, h.1))
    (λ e. rw e (e, h))

pub apart-fewest : (cs : List Piece) → AreApart (fewest cs)
apart-fewest [] = tt
apart-fewest (c ∷ cs) = apart-join c (fewest cs) (apart-fewest cs)

-- ---- a text after changes
drop-add : {A : Type 0} (n m : ℕ) (text : List A) → drop (n + m) text ≡ drop m (drop n text)
drop-add n m text = sym (drop-drop m n text)

patched-together : (c d : Piece) (cs : List Piece) (text : List (ℕ × Author)) → are_alike c d ≡ true →
    patched (together c d ∷ cs) text ≡ patched (c ∷ d ∷ cs) text
patched-together (Keep n) (Keep m) cs text h = rw (take-add n m text, drop-add n m text) (append_assoc (take n text)
    (take m (drop n text)) (patched cs (drop m (drop n text))))
patched-together (Keep n) (Drop m) cs text h = absurd (cc)
patched-together (Keep n) (Insert b t) cs text h = absurd (cc)
patched-together (Drop n) (Keep m) cs text h = absurd (cc)
patched-together (Drop n) (Drop m) cs text h = ap (patched cs) (drop-add n m text)
patched-together (Drop n) (Insert b t) cs text h = absurd (cc)
patched-together (Insert a s) (Keep m) cs text h = absurd (cc)
patched-together (Insert a s) (Drop m) cs text h = absurd (cc)
patched-together (Insert a s) (Insert b t) cs text h =
    ap (λ l. l ++ patched cs text) (map-append (λ c. (c, a)) s t
    ∙ ap (λ (x : Author). written_by a s ++ written_by x t) (same_author-true a b h))
    ∙ append_assoc (written_by a s) (written_by b t) (patched cs text)

patched-join : (c : Piece) (cs : List Piece) (text : List (ℕ × Author)) → patched (join_piece c cs) text
    ≡ patched (c ∷ cs) text
patched-join c [] text = refl
patched-join c (d ∷ cs) text = split (are_alike c d) (λ e. rw e (patched-together c d cs text e)) (λ e. rw e refl)

patched-same : (c : Piece) (cs ds : List Piece) → ((text : List (ℕ × Author)) → patched cs text ≡ patched ds text)
    → (text : List (ℕ × Author)) → patched (c ∷ cs) text ≡ patched (c ∷ ds) text
patched-same (Keep n) cs ds h text = ap (λ l. take n text ++ l) (h (drop n text))
patched-same (Drop n) cs ds h text = h (drop n text)
patched-same (Insert a t) cs ds h text = ap (λ l. written_by a t ++ l) (h text)

pub patched-fewest : (cs : List Piece) (text : List (ℕ × Author)) → patched (fewest cs) text ≡ patched cs text
patched-fewest [] text = refl
patched-fewest (c ∷ cs) text = patched-join c (fewest cs) text
    ∙ patched-same c (fewest cs) cs (patched-fewest cs) text

patched-cells : (rev to : ℕ) (cells : List Cell) → patched (flat_map (piece_of rev to) cells)
    (written_in (cells_at rev cells)) ≡ written_in (cells_at to cells)
patched-cells rev to [] = refl
patched-cells rev to (c ∷ cells) = let rest = patched-cells rev to cells in
    split (shown_at rev c)
    (λ e. split (shown_at to c)
    (λ f. rw (e, f) (ap (λ l. written (character_of c) ∷ l) rest))
    (λ f. rw (e, f) rest))
    (λ e. split (shown_at to c)
    (λ f. rw (e, f) (ap (λ l. written (character_of c) ∷ l) rest))
    (λ f. rw (e, f) rest))

pub patched-changes : (rev to : ℕ) (cells : List Cell) → patched (changes rev to cells) (written_in (cells_at rev cells))
    ≡ written_in (cells_at to cells)
patched-changes rev to cells = patched-fewest (flat_map (piece_of rev to) cells) (written_in (cells_at rev cells))
    ∙ patched-cells rev to cells

-- ---- lengths
pub old-together : (c d : Piece) → are_alike c d ≡ true → old_len (together c d) ≡ old_len c + old_len d
old-together (Keep n) (Keep m) h = refl
old-together (Keep n) (Drop m) h = absurd (cc)
old-together (Keep n) (Insert b t) h = absurd (cc)
old-together (Drop n) (Keep m) h = absurd (cc)
old-together (Drop n) (Drop m) h = refl
old-together (Drop n) (Insert b t) h = absurd (cc)
old-together (Insert a s) (Keep m) h = absurd (cc)
old-together (Insert a s) (Drop m) h = absurd (cc)
old-together (Insert a s) (Insert b t) h = refl

new-together : (c d : Piece) → are_alike c d ≡ true → new_len (together c d) ≡ new_len c + new_len d
new-together (Keep n) (Keep m) h = refl
new-together (Keep n) (Drop m) h = absurd (cc)
new-together (Keep n) (Insert b t) h = absurd (cc)
new-together (Drop n) (Keep m) h = absurd (cc)
new-together (Drop n) (Drop m) h = refl
new-together (Drop n) (Insert b t) h = absurd (cc)
new-together (Insert a s) (Keep m) h = absurd (cc)
new-together (Insert a s) (Drop m) h = absurd (cc)
new-together (Insert a s) (Insert b t) h = length-append s t

module _ (size : Piece → ℕ) (both : (c d : Piece) → are_alike c d ≡ true → size (together c d) ≡ size c + size d)
  where
    size-join : (c : Piece) (cs : List Piece) → sum_by size (join_piece c cs) ≡ size c + sum_by size cs
    size-join c [] = sum_by-cons size c []
    size-join c (d ∷ cs) = split (are_alike c d)
        (λ e. let s = both c d e in rw (e, sum_by-cons size (together c d) cs, sum_by-cons size d cs) (omega (arith, s)))
        (λ e. rw (e, sum_by-cons size c (d ∷ cs)) refl)

    size-fewest : (cs : List Piece) → sum_by size (fewest cs) ≡ sum_by size cs
    size-fewest [] = refl
    size-fewest (c ∷ cs) = size-join c (fewest cs) ∙ ap (λ n. size c + n) (size-fewest cs) ∙ sym (sum_by-cons size c cs)

old-cells : (rev to : ℕ) (cells : List Cell) → sum_by old_len (flat_map (piece_of rev to) cells)
    ≡ length (cells_at rev cells)
old-cells rev to [] = refl
old-cells rev to (c ∷ cells) = let rest = old-cells rev to cells in
    split (shown_at rev c)
    (λ e. split (shown_at to c)
    (λ f. rw (e, f, sum_by-cons old_len (Keep 1) (flat_map (piece_of rev to) cells)) (omega (arith, rest)))
    (λ f. rw (e, f, sum_by-cons old_len (Drop 1) (flat_map (piece_of rev to) cells)) (omega (arith, rest))))
    (λ e. split (shown_at to c)
    (λ f. rw (e, f, sum_by-cons old_len (Insert c.author (c.character ∷ [])) (flat_map (piece_of rev to) cells))
    (omega (arith, rest)))
    (λ f. rw (e, f) rest))

new-cells : (rev to : ℕ) (cells : List Cell) → sum_by new_len (flat_map (piece_of rev to) cells) ≡ length (cells_at to cells)
new-cells rev to [] = refl
new-cells rev to (c ∷ cells) = let rest = new-cells rev to cells in
    split (shown_at rev c)
    (λ e. split (shown_at to c)
    (λ f. rw (e, f, sum_by-cons new_len (Keep 1) (flat_map (piece_of rev to) cells)) (omega (arith, rest)))
    (λ f. rw (e, f, sum_by-cons new_len (Drop 1) (flat_map (piece_of rev to) cells)) (omega (arith, rest))))
    (λ e. split (shown_at to c)
    (λ f. rw (e, f, sum_by-cons new_len (Insert c.author (c.character ∷ [])) (flat_map (piece_of rev to) cells))
    (omega (arith, rest)))
    (λ f. rw (e, f) rest))

pub old-changes : (rev to : ℕ) (cells : List Cell) → sum_by old_len (changes rev to cells)
    ≡ length (cells_at rev cells)
old-changes rev to cells = size-fewest old_len old-together (flat_map (piece_of rev to) cells) ∙ old-cells rev to cells

pub new-changes : (rev to : ℕ) (cells : List Cell) → sum_by new_len (changes rev to cells) ≡ length (cells_at to cells)
new-changes rev to cells = size-fewest new_len new-together (flat_map (piece_of rev to) cells) ∙ new-cells rev to cells

-- ---- no piece is empty
abbrev pub full : Piece → Type 0
full p = 0 < old_len p + new_len p

full-together : (c d : Piece) → are_alike c d ≡ true → full c → full (together c d)
full-together c d e h = let o = old-together c d e in let n = new-together c d e in rw (o, n) (omega (arith, h))

full-join : (c : Piece) (cs : List Piece) → full c → AllByRecursion full cs → AllByRecursion full (join_piece c cs)
full-join c [] h hs = (h, tt)
full-join c (d ∷ cs) h hs = split (are_alike c d)
    (λ e. rw e (full-together c d e h, hs.1))
    (λ e. rw e (h, hs))

full-cells : (rev to : ℕ) (cells : List Cell) → AllByRecursion full (fewest (flat_map (piece_of rev to) cells))
full-cells rev to [] = tt
full-cells rev to (c ∷ cells) = let rest = full-cells rev to cells in
    split (shown_at rev c)
    (λ e. split (shown_at to c)
    (λ f. rw (e, f) (full-join (Keep 1) _ (omega arith) rest))
    (λ f. rw (e, f) (full-join (Drop 1) _ (omega arith) rest)))
    (λ e. split (shown_at to c)
    (λ f. rw (e, f) (full-join (Insert c.author (c.character ∷ [])) _ (omega arith) rest))
    (λ f. rw (e, f) rest))

pub full-changes : (rev to : ℕ) (cells : List Cell) → AllByRecursion full (changes rev to cells)
full-changes rev to cells = full-cells rev to cells

-- ---- two successive answers
pub composed-changes : (a b c : ℕ) (cells : List Cell)
    → patched (changes b c cells) (patched (changes a b cells) (written_in (cells_at a cells)))
    ≡ patched (changes a c cells) (written_in (cells_at a cells))
composed-changes a b c cells = ap (patched (changes b c cells)) (patched-changes a b cells)
    ∙ patched-changes b c cells ∙ sym (patched-changes a c cells)

-- ---- the same before others
pub fewest-append : (xs ys zs : List Piece) → fewest ys ≡ fewest zs → fewest (xs ++ ys) ≡ fewest (xs ++ zs)
fewest-append [] ys zs h = h
fewest-append (x ∷ xs) ys zs h = ap (join_piece x) (fewest-append xs ys zs h)

-- two that are alike, before others, and the one that they make
pub fewest-together : (a b : Piece) (zs : List Piece) → are_alike a b ≡ true → fewest (a ∷ b ∷ zs)
    ≡ fewest (together a b ∷ zs)
fewest-together a b zs h = join-together a b (fewest zs) h

-- ---- from the start
first-run : (a b : Author) (n x : ℕ) (rs : List AuthorRun) (xs : List ℕ) → a ≡ b →
    ◌≡◌ {A = List Piece} (Insert a (x ∷ take n xs) ∷ insertions rs (drop n xs))
    (Insert b (take (n + 1) (x ∷ xs)) ∷ insertions rs (drop (n + 1) (x ∷ xs)))
first-run a b n x rs xs h = rw (add-one n, h) refl

first-join : (a : Author) (x : ℕ) (rs : List AuthorRun) (xs : List ℕ) →
    join_piece (Insert a (x ∷ [])) (insertions rs xs) ≡ insertions (join_run a rs) (x ∷ xs)
first-join a x [] xs = refl
first-join a x (r ∷ rs) xs = split (same_author a r.author)
    (λ e. rw e (first-run a r.author r.len x rs xs (same_author-true a r.author e)))
    (λ e. rw e refl)

pub first-changes : (rev to : ℕ) (cells : List Cell) → AllByRecursion (λ c. rev < c.born) cells → changes rev to cells
    ≡ insertions (runs_at to cells) (text_at to cells)
first-changes rev to [] h = refl
first-changes rev to (c ∷ cells) h =
    let rest = first-changes rev to cells h.1 in
    let young : nat_le c.born rev ≡ false = lt-leb c.born rev h.0 in
    split (shown_at to c)
    (λ f. rw (young, f) (ap (join_piece (Insert c.author (c.character ∷ []))) rest
    ∙ first-join c.author c.character (runs (map (λ c. c.author) (cells_at to cells)))
    (map (λ c. c.character) (cells_at to cells))))
    (λ f. rw (young, f) rest)
