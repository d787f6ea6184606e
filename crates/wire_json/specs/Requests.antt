-- How requests and operations are read. A value for which these definitions give nothing is not a request.
use Rattle.std.specs.Prelude.{ℕ, ◌==◌, if◌then◌else◌, Bool, true, false, List, [], ◌∷◌, length, Option, Some, None}
use Rattle.std.specs.Prelude.{option_map, option_and_then, unwrap_or, is_some, bytes_eq, codes}
use Rattle.serde_json.specs.Data.{Data}
use Rattle.serde_json.specs.Find.{get}
use Rattle.guests.specs.Guests.{guest_name, link_name}
use Rattle.pad_model.specs.Checked.{is_within}
use Rattle.pad_model.specs.declared.op.Op.{Op}
use Rattle.pad_model.specs.declared.op.OpName.{OpName}
use Rattle.pad_model.specs.declared.op.Part.{Part}
use Rattle.pad_model.specs.declared.op.Part.TheVariants as part
use Rattle.pad_model.specs.declared.seen.Counted.{Counted}
use Rattle.pad_core.specs.declared.act.Act.{Act}
use Rattle.pad_core.specs.declared.act.Act.TheVariants as act
use Rattle.pad_core.specs.declared.act.Change.{Change}
use Rattle.pad_core.specs.declared.act.Change.TheVariants as change
use Rattle.pad_core.specs.declared.exchange.TheConstants.{MAX_BATCH}
use Rattle.pad_core.specs.declared.reply.Kind.{Kind}
use Rattle.pad_core.specs.declared.reply.Kind.TheVariants as kind
use Rattle.pad_core.specs.declared.request.TheConstants.{MAX_PEOPLE_ASKED}
use Rattle.pad_core.specs.declared.request.Request.{Request}
use Rattle.pad_core.specs.declared.request.Request.TheVariants as request
use Rattle.rights.specs.declared.grantee.Grantee.{Grantee}
use Rattle.rights.specs.declared.grantee.Grantee.TheVariants.{Author}
use Rattle.rights.specs.declared.right.Right.{Right}
use Rattle.wire_json.specs.declared.act_words.ActWord.{ActWord}
use Rattle.wire_json.specs.declared.act_words.ActWord.TheVariants as act_word
use Rattle.wire_json.specs.Guests.{is_plain, is_secret, is_token}
use Rattle.wire_json.specs.Words.{kind_of_word, act_word_of}
use Rattle.wire_json.specs.Reading.{of_two, of_three, of_four, field, null_or, optional, list_in, number_in, truth_in, name_in}
use Rattle.wire_json.specs.Reading.{grantee_in, if_there, invited_in, within_in, text_in, stamp_in, op_name_in, span_in, seen_in, right_in, version_of}

-- the part of a kind
abbrev pub part_of : Kind → Data → Option Part
part_of kind.Insert d =
    of_three (λ first after text. part.Insert
    (record { first = first; after = after; text = text }))
    (field stamp_in (codes "first") d) (field (null_or stamp_in) (codes "after") d) (field text_in (codes "text") d)
part_of kind.Delete d = option_map part.Delete (field (list_in span_in) (codes "spans") d)
part_of kind.Comment d =
    of_three part.Comment (field stamp_in (codes "first") d) (field stamp_in (codes "last") d)
    (field text_in (codes "text") d)
part_of kind.Resolve d = option_map part.Resolve (field op_name_in (codes "comment") d)
part_of kind.Edit d = None

-- the kind that an operation or a part names
abbrev pub kind_in : Data → Option Kind
kind_in d = option_and_then kind_of_word (field name_in (codes "kind") d)

-- a part of an edit, by its own kind; the check of the operation tells whether it is an insertion or a deletion
abbrev pub edit_part_in : Data → Option Part
edit_part_in d = option_and_then (λ k. part_of k d) (kind_in d)

-- several parts, or none; a single part has the form of its kind
abbrev pub several : List Part → Option (List Part)
several parts = if length parts == 1 then None else Some parts

-- the parts of a kind
abbrev pub parts_of : Kind → Data → Option (List Part)
parts_of kind.Insert d = option_map (λ p. p ∷ []) (part_of kind.Insert d)
parts_of kind.Delete d = option_map (λ p. p ∷ []) (part_of kind.Delete d)
parts_of kind.Comment d = option_map (λ p. p ∷ []) (part_of kind.Comment d)
parts_of kind.Resolve d = option_map (λ p. p ∷ []) (part_of kind.Resolve d)
parts_of kind.Edit d = option_and_then several (field (list_in edit_part_in) (codes "parts") d)

-- an operation of these fields
abbrev pub op_of : OpName → List Counted → List ℕ → List Part → Op
op_of name seen author parts = record { name = name; seen = seen; author = author; parts = parts }

-- an operation
abbrev pub op_in : Data → Option Op
op_in d =
    of_four op_of (field op_name_in (codes "name") d) (field seen_in (codes "seen") d)
    (field name_in (codes "author") d)
    (option_and_then (λ k. parts_of k d) (kind_in d))

-- a change has either a text or a length
abbrev pub change_of : Bool → Bool → ℕ → Data → Option Change
change_of true true at d = None
change_of true false at d = option_map (change.Insert at) (field text_in (codes "text") d)
change_of false true at d = option_map (change.Delete at) (field number_in (codes "len") d)
change_of false false at d = None

-- a change of an edit
abbrev pub change_in : Data → Option Change
change_in d = option_and_then (λ at. change_of (is_some (get (codes "text") d)) (is_some (get (codes "len") d)) at d)
    (field number_in (codes "at") d)

-- a request for times has moments, or says of which revisions
abbrev pub times_of : Bool → Data → Option Act
times_of true d = option_map act.RevsAt (field (list_in number_in) (codes "at") d)
times_of false d =
    of_three act.Times (field number_in (codes "from") d) (field number_in (codes "step") d)
    (field number_in (codes "count") d)

-- a join, instead of an old visit where one is named
abbrev pub joining : Option ℕ → Act
joining None = act.Join
joining (Some old) = act.Rejoin old

-- the name of the link with a secret
abbrev pub linked : List ℕ → Option Grantee
linked secret = if is_secret secret then Some (Author (link_name secret)) else None

-- an invitation: a link is granted a right
abbrev pub inviting : Grantee → Right → Act
inviting link right = act.Grant link (Some right)

-- a guest's display name, which has no control character
abbrev pub introducing : List ℕ → Option Act
introducing display = if is_plain display then Some (act.Introduce display) else None

-- the act that its word names, from the fields that it takes
abbrev pub act_of : ActWord → Data → Option Act
act_of act_word.Join d = option_map joining (optional number_in (codes "instead") d)
act_of act_word.Leave d = Some act.Leave
act_of act_word.Insert d =
    of_three act.Insert (field number_in (codes "rev") d) (field number_in (codes "at") d)
    (field text_in (codes "text") d)
act_of act_word.Delete d =
    of_three act.Delete (field number_in (codes "rev") d) (field number_in (codes "at") d)
    (field number_in (codes "len") d)
act_of act_word.Edit d = of_two act.Edit (field number_in (codes "rev") d) (field (list_in change_in) (codes "parts") d)
act_of act_word.Comment d =
    of_four act.Comment (field number_in (codes "rev") d) (field number_in (codes "at") d)
    (field number_in (codes "len") d)
    (field text_in (codes "text") d)
act_of act_word.Resolve d = option_map act.Resolve (field op_name_in (codes "comment") d)
act_of act_word.Text d = option_map act.Text (optional number_in (codes "rev") d)
act_of act_word.Runs d = option_map act.Runs (optional number_in (codes "rev") d)
act_of act_word.Comments d = option_map act.Comments (optional number_in (codes "rev") d)
act_of act_word.Changes d =
    of_three act.Changes (field number_in (codes "rev") d) (optional number_in (codes "to") d)
    (option_map (λ wait. unwrap_or wait 0) (optional number_in (codes "wait") d))
act_of act_word.Revs d = Some act.Revs
act_of act_word.Entries d =
    of_three act.Entries (field number_in (codes "from") d) (field number_in (codes "count") d)
    (option_map (λ times. unwrap_or times false) (optional truth_in (codes "times") d))
act_of act_word.Times d = times_of (is_some (get (codes "at") d)) d
act_of act_word.Birth d = of_two act.Birth (field number_in (codes "rev") d) (field number_in (codes "at") d)
act_of act_word.Caret d = of_two act.Caret (field number_in (codes "rev") d) (field number_in (codes "at") d)
act_of act_word.Who d = Some act.Who
act_of act_word.Grant d = of_two act.Grant (field grantee_in (codes "author") d) (field right_in (codes "right") d)
act_of act_word.Invite d =
    of_two inviting (option_and_then linked (field name_in (codes "secret") d)) (field invited_in (codes "right") d)
act_of act_word.Hand d = option_map act.Hand (field name_in (codes "author") d)
act_of act_word.Rights d = Some act.Rights
act_of act_word.Close d = Some (act.SetClosed true)
act_of act_word.Reopen d = Some (act.SetClosed false)
act_of act_word.Mark d = of_two act.Mark (field number_in (codes "rev") d) (field text_in (codes "text") d)
act_of act_word.Marks d = Some act.Marks
act_of act_word.Introduce d = option_and_then introducing (field text_in (codes "as") d)
act_of act_word.Guests d = Some act.Guests
act_of act_word.Vector d = Some act.Vector
act_of act_word.Push d = option_map act.Push (field op_in (codes "op") d)
act_of act_word.Pull d =
    of_three act.Pull (field seen_in (codes "seen") d) (field number_in (codes "max") d)
    (if_there (within_in MAX_BATCH) (codes "batch") d)

-- a log-in of an author
abbrev pub hello_in : Data → Option Request
hello_in d = of_two request.Hello (field name_in (codes "name") d) (field name_in (codes "token") d)

-- a log-in under the name that a guest's token makes
abbrev pub guest_of : List ℕ → Option Request
guest_of token = if is_token token then Some (request.Hello (guest_name token) token) else None

-- a log-in of a guest
abbrev pub guest_in : Data → Option Request
guest_in d = option_and_then guest_of (field name_in (codes "token") d)

-- a log-in of a peer
abbrev pub peer_in : Data → Option Request
peer_in d =
    of_three request.Peer (field number_in (codes "number") d) (field name_in (codes "token") d)
    (option_and_then version_of (optional number_in (codes "version") d))

-- a creation of a pad
abbrev pub create_in : Data → Option Request
create_in d = option_map request.Create (field name_in (codes "pad") d)

-- a request for display names, of as many authors as can be asked for at once
abbrev pub people_of : List (List ℕ) → Option Request
people_of authors =
    if is_within (length authors) MAX_PEOPLE_ASKED then Some (request.People authors) else None

-- a request for display names
abbrev pub people_in : Data → Option Request
people_in d = option_and_then people_of (field (list_in name_in) (codes "authors") d)

-- an act on a pad
abbrev pub on_in : List ℕ → Data → Option Request
on_in word d = of_two request.On (field name_in (codes "pad") d) (option_and_then (λ k. act_of k d) (act_word_of word))

-- the request that a word names
abbrev pub asked : List ℕ → Data → Option Request
asked word d =
    if bytes_eq word (codes "hello") then hello_in d
    else if bytes_eq word (codes "guest") then guest_in d
    else if bytes_eq word (codes "peer") then peer_in d
    else if bytes_eq word (codes "create") then create_in d
    else if bytes_eq word (codes "pads") then Some request.Pads
    else if bytes_eq word (codes "people") then people_in d
    else on_in word d

-- a request
abbrev pub request_in : Data → Option Request
request_in d = option_and_then (λ word. asked word d) (field name_in (codes "do") d)
