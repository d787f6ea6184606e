-- The comments of a log are those of its book.
use Rattle.std.proofs.Common.{◌≡◌, ◌⊎◌, inl, inr, ℕ, suc, ◌+◌, Bool, true, false, ◌&&◌, ◌||◌, cond, List, [], ◌∷◌, ◌++◌}
use Rattle.std.proofs.Common.{length, map, flat_map, fold, None, is_some, refl, sym, ap, ap₂, ◌∙◌, subst, arith}
use Rattle.std.proofs.Common.{eqb-true}
use Rattle.std.specs.List.{AllByRecursion, insert, list_any, list_all}
use Rattle.std.proofs.Math.Bool.{or-true, or-false}
use Rattle.std.proofs.lemmas.Bool.{and_parts, or_cases, or_left, or_right, both_ways, false≢true}
use Rattle.std.proofs.lemmas.Bool.Decides.{nat_tests}
use Rattle.std.proofs.lemmas.List.{map-append}
use Rattle.std.proofs.lemmas.List.Folds.{list_any-append}
use Rattle.pad_model.specs.Stamp.{Stamp}
use Rattle.pad_model.specs.Checked.{is_edit}
use Rattle.pad_model.specs.History.{IsHistory}
use Rattle.pad_model.specs.Log.{is_comment, part_is_valid, precedes, same_name}
use Rattle.pad_model.specs.Operation.{Characters, author_of, characters_in}
use Rattle.pad_model.specs.Visible.{range_of}
use Rattle.pad_model.specs.declared.op.Op.{Op}
use Rattle.pad_model.specs.declared.op.OpName.{OpName}
use Rattle.pad_model.specs.declared.op.Part.{Part}
use Rattle.pad_model.specs.declared.op.Part.TheVariants.{Insert, Delete, Comment, Resolve}
use Rattle.pad_model.specs.declared.who.Author.{Author}
use Rattle.pad_model.proofs.Each.{each-append, each-imply}
use Rattle.pad_model.proofs.Newer.{split}
use Rattle.comments.specs.Comments.{place_of, with_comment, with_resolution, resolved_at}
use Rattle.comments.specs.declared.comment.Comment as kept
use Rattle.comments.specs.declared.show.Shown.{Shown}
use Rattle.pad_model.proofs.Names.{precedes-trans}
use Rattle.pad_core.specs.Book.{entered, book_of}
use Rattle.pad_core.specs.Comments.{is_resolution, resolves, put_by_name, by_name, shown_part, shown_in, comments_of}
use Rattle.pad_core.specs.Counts.{AreNumbered}
use Rattle.pad_core.specs.Notes.{has_comment}
use Rattle.pad_core.proofs.Booked.{book_of-push, by_parts, edits_enter}
use Rattle.pad_core.proofs.ByName.{AreByName, by_name-push, by_name_rises}
use Rattle.pad_core.proofs.Histories.{Follows, grown, name_new}

-- a comment without its place in the text and without revisions
pub record Bare : Type 0 where
  pub name : OpName
  pub author : Author
  pub text : List ℕ
  pub first : Stamp
  pub last : Stamp
  pub resolved : Bool

-- a comment of a book, so
abbrev pub bare : kept.Comment → Bare
bare c = record { name = c.name; author = c.author; text = c.text; first = c.first; last = c.last; resolved = is_some c.resolved }

-- the comment of a part, so
abbrev pub bare_part : Bool → Op → Part → List Bare
bare_part resolved op (Insert run) = []
bare_part resolved op (Delete spans) = []
bare_part resolved op (Comment first last text) =
    record { name = op.name; author = author_of op; text = text; first = first; last = last; resolved = resolved } ∷ []
bare_part resolved op (Resolve comment) = []

-- the comment of an operation of a log, if it makes one
abbrev pub bare_in : List Op → Op → List Bare
bare_in log op = flat_map (bare_part (list_any (resolves op.name) log) op) op.parts

-- the comments of a log by name
abbrev pub bare_of : List Op → List Bare
bare_of log = flat_map (bare_in log) (by_name log)

-- comments with one more at its place
put_bare : Bare → List Bare → List Bare
put_bare new [] = new ∷ []
put_bare new (x ∷ xs) = cond (precedes x.name new.name) (x ∷ put_bare new xs) (new ∷ x ∷ xs)

-- a comment once one of a name is resolved
abbrev resolve_bare : OpName → Bare → Bare
resolve_bare name x = record { name = x.name; author = x.author; text = x.text; first = x.first; last = x.last; resolved = x.resolved || same_name name x.name }

same_name-true : (a b : OpName) → same_name a b ≡ true → a ≡ b
same_name-true a b e =
    let parts = and_parts _ _ e in
    ap₂ (λ origin number. let name : OpName = record { origin = origin; number = number } in name)
    (eqb-true a.origin b.origin parts.0) (eqb-true a.number b.number parts.1)

same_name-sym : (a b : OpName) → same_name a b ≡ same_name b a
same_name-sym a b = grind (arith, nat_tests)

-- a new comment of a book is put at the same place
place_later : (x : kept.Comment) (comments : List kept.Comment) (name : OpName) → precedes x.name name ≡ true →
    place_of name (x ∷ comments) ≡ suc (place_of name comments)
place_later x comments name before = rw before (omega arith)

place_here : (x : kept.Comment) (comments : List kept.Comment) (name : OpName) → precedes x.name name ≡ false →
    place_of name (x ∷ comments) ≡ 0
place_here x comments name stops = rw stops refl

bare-with_comment : (new : kept.Comment) (comments : List kept.Comment) → map bare (with_comment new comments)
    ≡ put_bare (bare new) (map bare comments)
unfolding put_bare
bare-with_comment new [] = refl
bare-with_comment new (x ∷ comments) =
    split (precedes x.name new.name)
    (λ before. ap (λ i. map bare (insert (x ∷ comments) i new)) (place_later x comments new.name before)
    ∙ rw before (ap (λ l. bare x ∷ l) (bare-with_comment new comments)))
    (λ stops. ap (λ i. map bare (insert (x ∷ comments) i new)) (place_here x comments new.name stops) ∙ rw stops refl)

-- and a resolution resolves the same
bare_resolved : (name : OpName) (rev : ℕ) (c : kept.Comment) → bare (cond (same_name c.name name) (resolved_at rev c) c)
    ≡ resolve_bare name (bare c)
bare_resolved name rev c =
    split (same_name c.name name)
    (λ same. rw (same, sym (same_name-sym c.name name) ∙ same)
    (ap (λ b. let x : Bare = record { name = c.name; author = c.author; text = c.text; first = c.first; last = c.last; resolved = b } in x) (sym (or-true (is_some c.resolved)))))
    (λ other. rw (other, sym (same_name-sym c.name name) ∙ other)
    (ap (λ b. let x : Bare = record { name = c.name; author = c.author; text = c.text; first = c.first; last = c.last; resolved = b } in x) (sym (or-false (is_some c.resolved)))))

bare-with_resolution : (name : OpName) (rev : ℕ) (comments : List kept.Comment) →
    map bare (with_resolution name rev comments) ≡ map (resolve_bare name) (map bare comments)
bare-with_resolution name rev [] = refl
bare-with_resolution name rev (c ∷ comments) = ap₂ (λ (x : Bare) xs. x ∷ xs) (bare_resolved name rev c)
    (bare-with_resolution name rev comments)

-- what each operation makes, put together
pub flat_map-same : {A B : Type 0} (f g : A → List B) (xs : List A) → ((x : A) → f x ≡ g x) → flat_map f xs
    ≡ flat_map g xs
flat_map-same f g [] same = refl
flat_map-same f g (x ∷ xs) same = ap₂ (λ l m. l ++ m) (same x) (flat_map-same f g xs same)

flat_map-map : {A B C : Type 0} (f : A → List B) (g : B → C) (h : A → List C) (xs : List A) →
    ((x : A) → h x ≡ map g (f x)) → flat_map h xs ≡ map g (flat_map f xs)
flat_map-map f g h [] same = refl
flat_map-map f g h (x ∷ xs) same = ap₂ (λ l m. l ++ m) (same x) (flat_map-map f g h xs same)
    ∙ sym (map-append g (f x) (flat_map f xs))

each-flat_map : {A B : Type 0} (P : A → Type 0) (Q : B → Type 0) (f : A → List B) (xs : List A) →
    ((x : A) → P x → AllByRecursion Q (f x)) → AllByRecursion P xs → AllByRecursion Q (flat_map f xs)
each-flat_map P Q f [] one each = tt
each-flat_map P Q f (x ∷ xs) one each = each-append Q (f x) (flat_map f xs) (one x each.0)
    (each-flat_map P Q f xs one each.1)

-- an operation that makes no comment adds none
put_none : (f : Op → List Bare) (op : Op) (ops : List Op) → f op ≡ [] → flat_map f (put_by_name op ops) ≡ flat_map f ops
put_none f op [] none = ap (λ l. l ++ []) none
put_none f op (x ∷ ops) none =
    split (precedes x.name op.name)
    (λ before. rw before (ap (λ l. f x ++ l) (put_none f op ops none)))
    (λ stops. rw stops (ap (λ l. l ++ flat_map f (x ∷ ops)) none))

put_behind : (new : Bare) (xs ys : List Bare) → AllByRecursion (λ x. precedes x.name new.name ≡ true) xs →
    put_bare new (xs ++ ys) ≡ xs ++ put_bare new ys
unfolding put_bare
put_behind new [] ys before = refl
put_behind new (x ∷ xs) ys before = rw before.0 (ap (λ l. x ∷ l) (put_behind new xs ys before.1))

put_front : (new : Bare) (xs : List Bare) → AllByRecursion (λ x. precedes x.name new.name ≡ false) xs → put_bare new xs
    ≡ new ∷ xs
unfolding put_bare
put_front new [] stops = refl
put_front new (x ∷ xs) stops = rw stops.0 refl

stops_later : (first later name : OpName) → precedes first name ≡ false → precedes first later ≡ true →
    precedes later name ≡ false
stops_later first later name stops rises =
    split (precedes later name) (λ before. absurd (both_ways _ stops (precedes-trans first later name rises before)))
    (λ e. e)

-- an operation that makes one puts it at its place
put_one : (f : Op → List Bare) (op : Op) (new : Bare) (ops : List Op) → AreByName ops → f op ≡ new ∷ [] →
    ((one : Op) → AllByRecursion (λ x. x.name ≡ one.name) (f one)) → new.name ≡ op.name →
    flat_map f (put_by_name op ops) ≡ put_bare new (flat_map f ops)
unfolding put_bare
put_one f op new [] rise one named is = ap (λ l. l ++ []) one
put_one f op new (x ∷ ops) rise one named is =
    split (precedes x.name op.name)
    (λ before.
    let behind : AllByRecursion (λ y. precedes y.name new.name ≡ true) (f x) = each-imply (λ y. y.name ≡ x.name)
    (λ y. precedes y.name new.name ≡ true) (λ y e. ap₂ precedes e is ∙ before) (f x) (named x) in
    rw before (ap (λ l. f x ++ l) (put_one f op new ops rise.1 one named is)
    ∙ sym (put_behind new (f x) (flat_map f ops) behind)))
    (λ stops.
    let later : AllByRecursion (λ o. precedes o.name op.name ≡ false) (x ∷ ops) = (
      stops,
      each-imply (λ o. precedes x.name o.name ≡ true) (λ o. precedes o.name op.name ≡ false)
          (λ o h. stops_later x.name o.name op.name stops h) ops rise.0,
    ) in
    let front : AllByRecursion (λ y. precedes y.name new.name ≡ false) (flat_map f (x ∷ ops)) =
    each-flat_map (λ o. precedes o.name op.name ≡ false) (λ y. precedes y.name new.name ≡ false) f (x ∷ ops)
    (λ o h. each-imply (λ y. y.name ≡ o.name) (λ y. precedes y.name new.name ≡ false) (λ y e. ap₂ precedes e is ∙ h)
    (f o) (named o)) later
    in
    rw stops (ap (λ l. l ++ flat_map f (x ∷ ops)) one ∙ sym (put_front new (flat_map f (x ∷ ops)) front)))

-- a comment has the name of its operation
bare_named : (resolved : Bool) (op : Op) (parts : List Part) → AllByRecursion (λ x. x.name ≡ op.name)
    (flat_map (bare_part resolved op) parts)
bare_named resolved op [] = tt
bare_named resolved op (Insert run ∷ parts) = bare_named resolved op parts
bare_named resolved op (Delete spans ∷ parts) = bare_named resolved op parts
bare_named resolved op (Comment first last text ∷ parts) = (refl, bare_named resolved op parts)
bare_named resolved op (Resolve comment ∷ parts) = bare_named resolved op parts

-- insertions and deletions neither comment nor resolve
edits_bare : (resolved : Bool) (op : Op) (parts : List Part) → list_all is_edit parts ≡ true →
    flat_map (bare_part resolved op) parts ≡ []
edits_bare resolved op [] edits = refl
edits_bare resolved op (Insert run ∷ parts) edits = edits_bare resolved op parts edits
edits_bare resolved op (Delete spans ∷ parts) edits = edits_bare resolved op parts edits
edits_bare resolved op (Comment first last text ∷ parts) edits = absurd (false≢true edits)
edits_bare resolved op (Resolve comment ∷ parts) edits = absurd (false≢true edits)

edits_resolve : (name : OpName) (parts : List Part) → list_all is_edit parts ≡ true →
    list_any (is_resolution name) parts ≡ false
edits_resolve name [] edits = refl
edits_resolve name (Insert run ∷ parts) edits = edits_resolve name parts edits
edits_resolve name (Delete spans ∷ parts) edits = edits_resolve name parts edits
edits_resolve name (Comment first last text ∷ parts) edits = absurd (false≢true edits)
edits_resolve name (Resolve comment ∷ parts) edits = absurd (false≢true edits)

-- whether a comment is resolved once one more operation is made
resolved-push : (name : OpName) (log : List Op) (op : Op) → list_any (resolves name) (log ++ op ∷ [])
    ≡ (list_any (resolves name) log || resolves name op)
resolved-push name log op = list_any-append (resolves name) log (op ∷ []) ∙ ap (λ b. list_any (resolves name) log || b)
    (or-false (resolves name op))

-- where an operation resolves nothing, the comments of the others stay as they are
bare_stays : (log : List Op) (op one : Op) → ((name : OpName) → resolves name op ≡ false) → bare_in (log ++ op ∷ []) one
    ≡ bare_in log one
bare_stays log op one none =
    ap (λ b. flat_map (bare_part b one) one.parts)
    (resolved-push one.name log op ∙ ap (λ b. list_any (resolves one.name) log || b) (none one.name)
    ∙ or-false (list_any (resolves one.name) log))

-- where it resolves a comment, that one is resolved
bare_resolves : (log : List Op) (op one : Op) (comment : OpName) →
    ((name : OpName) → resolves name op ≡ same_name comment name) → bare_in (log ++ op ∷ []) one
    ≡ map (resolve_bare comment) (bare_in log one)
bare_resolves log op one comment does =
    ap (λ b. flat_map (bare_part b one) one.parts)
    (resolved-push one.name log op ∙ ap (λ b. list_any (resolves one.name) log || b) (does one.name))
    ∙ over (list_any (resolves one.name) log) one.parts
  where
    over : (b : Bool) (parts : List Part) → flat_map (bare_part (b || same_name comment one.name) one) parts
        ≡ map (resolve_bare comment) (flat_map (bare_part b one) parts)
    over b [] = refl
    over b (Insert run ∷ parts) = over b parts
    over b (Delete spans ∷ parts) = over b parts
    over b (Comment first last text ∷ parts) =
        ap (λ l. (let x : Bare = record { name = one.name; author = author_of one; text = text; first = first; last = last; resolved = b || same_name comment one.name } in x) ∷ l) (over b parts)
    over b (Resolve name ∷ parts) = over b parts

-- what an operation of a log resolves is a comment of the log
resolves_there : (name : OpName) (log : List Op) (parts : List Part) → list_all (λ part. part_is_valid part log) parts
    ≡ true → list_any (is_resolution name) parts ≡ true → has_comment name log ≡ true
resolves_there name log [] valid is = absurd (false≢true is)
resolves_there name log (Insert run ∷ parts) valid is =
    resolves_there name log parts (and_parts (part_is_valid (Insert run) log) _ valid).1 is
resolves_there name log (Delete spans ∷ parts) valid is =
    resolves_there name log parts (and_parts (part_is_valid (Delete spans) log) _ valid).1 is
resolves_there name log (Comment first last text ∷ parts) valid is =
    resolves_there name log parts (and_parts (part_is_valid (Comment first last text) log) _ valid).1 is
resolves_there name log (Resolve comment ∷ parts) valid is =
    let both = and_parts (part_is_valid (Resolve comment) log) (list_all (λ part. part_is_valid part log) parts)
    valid in
    either (or_cases (same_name comment name) (list_any (is_resolution name) parts) is) both.0
    (λ later. resolves_there name log parts both.1 later)
  where
    either : (same_name comment name ≡ true) ⊎ (list_any (is_resolution name) parts ≡ true) → has_comment comment log
        ≡ true → (list_any (is_resolution name) parts ≡ true → has_comment name log ≡ true) → has_comment name log
        ≡ true
    either (inl same) there rest = subst (λ n. has_comment n log ≡ true) (same_name-true comment name same) there
    either (inr later) there rest = rest later

resolved_commented : (log : List Op) → IsHistory log → AreNumbered [] log → (name : OpName) →
    list_any (resolves name) log ≡ true → has_comment name log ≡ true
resolved_commented log h n =
    grown (λ l. (name : OpName) → list_any (resolves name) l ≡ true → has_comment name l ≡ true)
    (λ name is. absurd (false≢true is))
    (λ l op follows old name is. list_any-append (λ one. is_comment one && same_name one.name name) l (op ∷ [])
    ∙ or_left (has_comment name l) _
    (either l op name follows (old name) (or_cases (list_any (resolves name) l) (resolves name op)
    (sym (resolved-push name l op) ∙ is))))
    log h n
  where
    either : (l : List Op) (op : Op) (name : OpName) → Follows l op →
        (list_any (resolves name) l ≡ true → has_comment name l ≡ true) → (list_any (resolves name) l ≡ true)
        ⊎ (resolves name op ≡ true) → has_comment name l ≡ true
    either l op name follows old (inl before) = old before
    either l op name follows old (inr now) =
        resolves_there name l op.parts (and_parts (list_all (λ part. part_is_valid part l) op.parts) _ follows.valid).0
        now

commented_named : (name : OpName) (log : List Op) → has_comment name log ≡ true →
    list_any (λ one. same_name one.name name) log ≡ true
commented_named name [] is = absurd (false≢true is)
commented_named name (op ∷ log) is = either (or_cases (is_comment op && same_name op.name name)
    (has_comment name log) is) (λ later. commented_named name log later)
  where
    either : ((is_comment op && same_name op.name name) ≡ true) ⊎ (has_comment name log ≡ true) →
        (has_comment name log ≡ true → list_any (λ one. same_name one.name name) log ≡ true) →
        (same_name op.name name || list_any (λ one. same_name one.name name) log) ≡ true
    either (inl here) rest = or_left (same_name op.name name) (list_any (λ one. same_name one.name name) log)
        (and_parts (is_comment op) (same_name op.name name) here).1
    either (inr later) rest = or_right (same_name op.name name) (list_any (λ one. same_name one.name name) log)
        (rest later)

-- so a comment that is just made is not resolved
not_resolved : (log : List Op) (op : Op) → Follows log op → list_any (resolves op.name) log ≡ false
not_resolved log op follows =
    split (list_any (resolves op.name) log)
    (λ is. absurd (both_ways _ (name_new log op follows)
    (commented_named op.name log (resolved_commented log follows.history follows.numbered op.name is))))
    (λ e. e)

-- one more operation: it edits, comments or resolves
step_edits : (log : List Op) (op : Op) (parts : List Part) → Follows log op → map bare (book_of log) ≡ bare_of log →
    op.parts ≡ parts → list_all is_edit parts ≡ true → map bare (book_of (log ++ op ∷ [])) ≡ bare_of (log ++ op ∷ [])
step_edits log op parts follows old is edits =
    let more = log ++ op ∷ [] in
    ap (map bare) (book_of-push log op ∙ ap (fold (entered (length log + 1) op) (book_of log)) is
    ∙ edits_enter (length log + 1) op (book_of log) parts edits)
    ∙ old
    ∙ sym (flat_map-same (bare_in more) (bare_in log) (by_name log)
    (λ one. bare_stays log op one (λ name. ap (list_any (is_resolution name)) is ∙ edits_resolve name parts edits)))
    ∙ sym (put_none (bare_in more) op (by_name log) (ap (flat_map (bare_part (list_any (resolves op.name) more) op)) is
    ∙ edits_bare (list_any (resolves op.name) more) op parts edits))
    ∙ ap (flat_map (bare_in more)) (sym (by_name-push log op))

step_comment : (log : List Op) (op : Op) (first last : Stamp) (text : List ℕ) → Follows log op → map bare (book_of log)
    ≡ bare_of log → op.parts ≡ Comment first last text ∷ [] → map bare (book_of (log ++ op ∷ []))
    ≡ bare_of (log ++ op ∷ [])
step_comment log op first last text follows old is =
    let more = log ++ op ∷ [] in
    let new : kept.Comment = record { name = op.name; first = first; last = last; author = author_of op; text = text; born = length log + 1; resolved = None } in
    let silent : (name : OpName) → resolves name op ≡ false = λ name. ap (list_any (is_resolution name)) is in
    let open_still : list_any (resolves op.name) more ≡ false = resolved-push op.name log op ∙ ap₂ (λ a b. a || b)
    (not_resolved log op follows) (silent op.name) in
    let one : bare_in more op ≡ bare new ∷ [] = ap (flat_map (bare_part (list_any (resolves op.name) more) op)) is
    ∙ ap (λ b. bare_part b op (Comment first last text)) open_still in
    ap (map bare) (book_of-push log op ∙ ap (fold (entered (length log + 1) op) (book_of log)) is)
    ∙ bare-with_comment new (book_of log)
    ∙ ap (put_bare (bare new)) (old ∙ sym (flat_map-same (bare_in more) (bare_in log) (by_name log)
    (λ o. bare_stays log op o silent)))
    ∙ sym (put_one (bare_in more) op (bare new) (by_name log) (by_name_rises log follows.history follows.numbered) one
    (λ o. bare_named (list_any (resolves o.name) more) o o.parts) refl)
    ∙ ap (flat_map (bare_in more)) (sym (by_name-push log op))

step_resolve : (log : List Op) (op : Op) (comment : OpName) → Follows log op → map bare (book_of log) ≡ bare_of log →
    op.parts ≡ Resolve comment ∷ [] → map bare (book_of (log ++ op ∷ [])) ≡ bare_of (log ++ op ∷ [])
step_resolve log op comment follows old is =
    let more = log ++ op ∷ [] in
    let does : (name : OpName) → resolves name op ≡ same_name comment name =
    λ name. ap (list_any (is_resolution name)) is ∙ or-false (same_name comment name) in
    ap (map bare) (book_of-push log op ∙ ap (fold (entered (length log + 1) op) (book_of log)) is)
    ∙ bare-with_resolution comment (length log + 1) (book_of log)
    ∙ ap (map (resolve_bare comment)) old
    ∙ sym (flat_map-map (bare_in log) (resolve_bare comment) (bare_in more) (by_name log)
    (λ one. bare_resolves log op one comment does))
    ∙ sym (put_none (bare_in more) op (by_name log)
    (ap (flat_map (bare_part (list_any (resolves op.name) more) op)) is))
    ∙ ap (flat_map (bare_in more)) (sym (by_name-push log op))

-- the book of a log has the comments of the log, by name
pub bare-book_of : (log : List Op) → IsHistory log → AreNumbered [] log → map bare (book_of log) ≡ bare_of log
bare-book_of log h n =
    grown (λ l. map bare (book_of l) ≡ bare_of l) refl
    (λ l op follows old.
    by_parts (λ parts. op.parts ≡ parts → map bare (book_of (l ++ op ∷ [])) ≡ bare_of (l ++ op ∷ []))
    (λ parts edits is. step_edits l op parts follows old is edits)
    (λ first last text is. step_comment l op first last text follows old is)
    (λ comment is. step_resolve l op comment follows old is)
    op follows.checked refl)
    log h n

-- a comment as a set of characters shows it
abbrev pub shown_bare : Characters → Bare → Shown
shown_bare set x = let range = range_of set x.first x.last in
    record { name = x.name; author = x.author; text = x.text; at = range.at; len = range.len; resolved = x.resolved }

shown_parts : (log : List Op) (op : Op) (parts : List Part) → flat_map (shown_part log op) parts
    ≡ map (shown_bare (characters_in log)) (flat_map (bare_part (list_any (resolves op.name) log) op) parts)
shown_parts log op [] = refl
shown_parts log op (Insert run ∷ parts) = shown_parts log op parts
shown_parts log op (Delete spans ∷ parts) = shown_parts log op parts
shown_parts log op (Comment first last text ∷ parts) = ap (λ l. shown_part log op (Comment first last text) ++ l)
    (shown_parts log op parts)
shown_parts log op (Resolve comment ∷ parts) = shown_parts log op parts

-- the comments of a log are these, shown
pub comments_of-bare : (log : List Op) → comments_of log ≡ map (shown_bare (characters_in log)) (bare_of log)
comments_of-bare log = flat_map-map (bare_in log) (shown_bare (characters_in log)) (shown_in log) (by_name log)
    (λ op. shown_parts log op op.parts)
