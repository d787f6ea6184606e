-- The words for acts, rights, kinds and states.
use Rattle.std.specs.Prelude.{ℕ, List, [], ◌∷◌, codes, bytes_eq, if◌then◌else◌, Option, Some, None}
use Rattle.rights.specs.declared.grantee.Grantee.{Grantee}
use Rattle.rights.specs.declared.grantee.Grantee.TheVariants.{Author, Everyone}
use Rattle.rights.specs.declared.right.Right.{Right}
use Rattle.rights.specs.declared.right.Right.TheVariants as right
use Rattle.pad_core.specs.declared.reply.Kind.{Kind}
use Rattle.pad_core.specs.declared.reply.Kind.TheVariants as kind
use Rattle.pad_core.specs.declared.reply.Pushed.{Pushed}
use Rattle.pad_core.specs.declared.reply.Pushed.TheVariants as state
use Rattle.wire_json.specs.declared.act_words.ActWord.{ActWord}
use Rattle.wire_json.specs.declared.act_words.ActWord.TheVariants as act_word

-- the word for a right
abbrev pub right_word : Right → List ℕ
right_word right.Read = codes "read"
right_word right.Comment = codes "comment"
right_word right.Write = codes "write"
right_word right.Own = codes "own"

-- the word for whom a right is granted to
abbrev pub grantee_word : Grantee → List ℕ
grantee_word (Author name) = name
grantee_word Everyone = codes "*"

-- whom a word names; `*` is everyone
abbrev pub grantee_of : List ℕ → Grantee
grantee_of word = if bytes_eq word (codes "*") then Everyone else Author word

-- the word for what an operation does
abbrev pub kind_word : Kind → List ℕ
kind_word kind.Insert = codes "insert"
kind_word kind.Delete = codes "delete"
kind_word kind.Comment = codes "comment"
kind_word kind.Resolve = codes "resolve"
kind_word kind.Edit = codes "edit"

-- the word for what became of a pushed operation
abbrev pub state_word : Pushed → List ℕ
state_word state.Repeat = codes "repeat"
state_word state.Held = codes "held"
state_word state.Delivered = codes "delivered"

-- what became of a pushed operation, by its word
abbrev pub state_of_word : List ℕ → Option Pushed
state_of_word word =
    if bytes_eq word (codes "repeat") then Some state.Repeat
    else if bytes_eq word (codes "held") then Some state.Held
    else if bytes_eq word (codes "delivered") then Some state.Delivered
    else None

-- the right that a word grants; `none` revokes it
abbrev pub granted_by : List ℕ → Option (Option Right)
granted_by word =
    if bytes_eq word (codes "none") then Some None
    else if bytes_eq word (codes "read") then Some (Some right.Read)
    else if bytes_eq word (codes "comment") then Some (Some right.Comment)
    else if bytes_eq word (codes "write") then Some (Some right.Write)
    else if bytes_eq word (codes "own") then Some (Some right.Own)
    else None

-- the right that a word gives to a link: to read, comment or write
abbrev pub invited_by : List ℕ → Option Right
invited_by word =
    if bytes_eq word (codes "read") then Some right.Read
    else if bytes_eq word (codes "comment") then Some right.Comment
    else if bytes_eq word (codes "write") then Some right.Write
    else None

-- the kind that a word names
abbrev pub kind_of_word : List ℕ → Option Kind
kind_of_word word =
    if bytes_eq word (codes "insert") then Some kind.Insert
    else if bytes_eq word (codes "delete") then Some kind.Delete
    else if bytes_eq word (codes "comment") then Some kind.Comment
    else if bytes_eq word (codes "resolve") then Some kind.Resolve
    else if bytes_eq word (codes "edit") then Some kind.Edit
    else None

-- the meaning of a word in a table, if it is there
abbrev pub looked_up : {A : Type 0} → List ℕ → List (List ℕ × A) → Option A
looked_up word [] = None
looked_up word ((name, meant) ∷ rest) = if bytes_eq word name then Some meant
    else looked_up word rest

-- the acts by their words
abbrev pub act_words : List (List ℕ × ActWord)
act_words =
    (codes "join", act_word.Join) ∷ (codes "leave", act_word.Leave) ∷ (codes "insert", act_word.Insert)
    ∷ (codes "delete", act_word.Delete) ∷ (codes "edit", act_word.Edit) ∷ (codes "text", act_word.Text)
    ∷ (codes "runs", act_word.Runs) ∷ (codes "comment", act_word.Comment) ∷ (codes "resolve", act_word.Resolve)
    ∷ (codes "comments", act_word.Comments) ∷ (codes "changes", act_word.Changes) ∷ (codes "revs", act_word.Revs)
    ∷ (codes "entries", act_word.Entries) ∷ (codes "times", act_word.Times) ∷ (codes "birth", act_word.Birth)
    ∷ (codes "caret", act_word.Caret) ∷ (codes "who", act_word.Who) ∷ (codes "grant", act_word.Grant)
    ∷ (codes "invite", act_word.Invite) ∷ (codes "hand", act_word.Hand) ∷ (codes "rights", act_word.Rights)
    ∷ (codes "close", act_word.Close) ∷ (codes "reopen", act_word.Reopen)
    ∷ (codes "mark", act_word.Mark)
    ∷ (codes "marks", act_word.Marks) ∷ (codes "introduce", act_word.Introduce)
    ∷ (codes "guests", act_word.Guests) ∷ (codes "vector", act_word.Vector) ∷ (codes "push", act_word.Push)
    ∷ (codes "pull", act_word.Pull) ∷ []

-- the act that a word names
abbrev pub act_word_of : List ℕ → Option ActWord
act_word_of word = looked_up word act_words
