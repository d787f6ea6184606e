-- Written values are plain: they hold no float, so their text is known, and they are nested only a few levels deep, so
-- they can be read.
use Rattle.std.proofs.Common.{◌≡◌, ℕ, ◌≤◌, List, [], ◌∷◌, map, Bool, true, false, Option, Some, None, Result, Ok, Err, refl, arith}
use Rattle.std.proofs.Common.{lit≤}
use Rattle.serde_json.specs.Data.{Data, depth, items_depth}
use Rattle.serde_json.specs.View.{items_of}
use Rattle.serde_json.specs.Written.{has_float, items_have_float}
use Rattle.pad_model.specs.Stamp.{Stamp}
use Rattle.pad_model.specs.declared.piece.Piece.{Piece}
use Rattle.pad_model.specs.declared.piece.Piece.TheVariants as piece
use Rattle.pad_model.specs.declared.refusal.Refusal.{Refusal}
use Rattle.pad_model.specs.declared.op.Op.{Op}
use Rattle.pad_model.specs.declared.op.OpName.{OpName}
use Rattle.pad_model.specs.declared.op.Span.{Span}
use Rattle.pad_model.specs.declared.op.Part.{Part}
use Rattle.pad_model.specs.declared.op.Part.TheVariants as part
use Rattle.pad_model.specs.declared.seen.Counted.{Counted}
use Rattle.pad_model.specs.declared.who.Version.TheVariants as version
use Rattle.pad_core.specs.declared.reply.Listed.{Listed}
use Rattle.pad_core.specs.declared.reply.LogEntry.{LogEntry}
use Rattle.pad_core.specs.declared.reply.PadReply.{PadReply}
use Rattle.pad_core.specs.declared.reply.PadReply.TheVariants as pad
use Rattle.pad_core.specs.declared.reply.Reply.{Reply}
use Rattle.pad_core.specs.declared.reply.Reply.TheVariants as reply
use Rattle.wire_json.specs.Forms.{number_data, parent_data, span_data, counted_data}
use Rattle.wire_json.specs.Operations.{part_data, op_data}
use Rattle.wire_json.specs.Peers.{peer_request, pull_request, vector_request, push_request}
use Rattle.wire_json.specs.Requests.{op_of}
use Rattle.wire_json.specs.Replies.{run_data, piece_data, shown_data, entry_data, present_data, grant_data, guest_data, mark_data, listed_data, person_data, pad_data}
use Rattle.wire_json.specs.Replies.{outcome_data, reply_data}

-- a value holds no float, and is nested at most this many levels deep
record IsPlain (most : ℕ) (d : Data) : Type 0 where
  floatless : has_float d ≡ false
  shallow : depth d ≤ most

-- the same for the items of a list
record ArePlain {A : Type 0} (most : ℕ) (data_of : A → Data) (items : List A) : Type 0 where
  floatless : items_have_float (items_of (map data_of items)) ≡ false
  shallow : items_depth (items_of (map data_of items)) ≤ most

-- a list is as plain as its items
each_of : {A : Type 0} (f : A → Data) (k : ℕ) → ((x : A) → IsPlain k (f x)) → (xs : List A) → ArePlain k f xs
each_of f k plain [] = record { floatless = refl; shallow = omega arith }
each_of f k plain (x ∷ xs) =
    let first = plain x in
    let rest = each_of f k plain xs in
    record { floatless = rw first.floatless rest.floatless; shallow = omega (arith, first.shallow, rest.shallow) }

parent_of : (after : Option Stamp) → IsPlain 1 (parent_data after)
parent_of None = record { floatless = refl; shallow = lit≤ tt }
parent_of (Some stamp) = record { floatless = refl; shallow = lit≤ tt }

spans_of : (spans : List Span) → ArePlain 1 span_data spans
spans_of spans = each_of span_data 1 (λ span. record { floatless = refl; shallow = lit≤ tt }) spans

seen_of : (pairs : List Counted) → ArePlain 1 counted_data pairs
seen_of pairs = each_of counted_data 1 (λ pair. record { floatless = refl; shallow = lit≤ tt }) pairs

part_of : (p : Part) → IsPlain 3 (part_data p)
part_of (part.Insert run) =
    let after = parent_of run.after in
    record { floatless = rw after.floatless refl; shallow = omega (arith, after.shallow) }
part_of (part.Delete spans) =
    let gone = spans_of spans in
    record { floatless = rw gone.floatless refl; shallow = omega (arith, gone.shallow) }
part_of other = record { floatless = refl; shallow = lit≤ tt }

fields_of : (name : OpName) (seen : List Counted) (author : List ℕ) (parts : List Part) →
    IsPlain 5 (op_data (op_of name seen author parts))
fields_of name seen author [] =
    let known = seen_of seen in
    record { floatless = rw known.floatless refl; shallow = omega (arith, known.shallow) }
fields_of name seen author (part.Insert run ∷ []) =
    let known = seen_of seen in
    let after = parent_of run.after in
    record {
      floatless = rw (known.floatless, after.floatless) refl;
      shallow = omega (arith, known.shallow, after.shallow);
    }
fields_of name seen author (part.Delete spans ∷ []) =
    let known = seen_of seen in
    let gone = spans_of spans in
    record {
      floatless = rw (known.floatless, gone.floatless) refl;
      shallow = omega (arith, known.shallow, gone.shallow);
    }
fields_of name seen author (p ∷ []) =
    let known = seen_of seen in
    record { floatless = rw known.floatless refl; shallow = omega (arith, known.shallow) }
fields_of name seen author (p ∷ q ∷ parts) =
    let known = seen_of seen in
    let all = each_of part_data 3 part_of (p ∷ q ∷ parts) in
    record { floatless = rw (known.floatless, all.floatless) refl; shallow = omega (arith, known.shallow, all.shallow) }

op_plain : (op : Op) → IsPlain 5 (op_data op)
op_plain op = fields_of op.name op.seen op.author op.parts

piece_of : (p : Piece) → IsPlain 1 (piece_data p)
piece_of (piece.Keep n) = record { floatless = refl; shallow = lit≤ tt }
piece_of (piece.Drop n) = record { floatless = refl; shallow = lit≤ tt }
piece_of (piece.Insert author text) = record { floatless = refl; shallow = lit≤ tt }

entry_of : (entry : LogEntry) (at : Option ℕ) → IsPlain 2 (entry_data (record entry { at = at }))
entry_of entry None = record { floatless = refl; shallow = lit≤ tt }
entry_of entry (Some at) = record { floatless = refl; shallow = lit≤ tt }

listed_of : (pad : Listed) (closed : Bool) → IsPlain 1 (listed_data (record pad { closed = closed }))
listed_of pad false = record { floatless = refl; shallow = lit≤ tt }
listed_of pad true = record { floatless = refl; shallow = lit≤ tt }

-- a pad's reply: one with a list needs a line of its own, any other one is plain by computation
pad_of : (said : PadReply) → IsPlain 7 (pad_data said)
pad_of (pad.Runs now rev runs) =
    let all = each_of run_data 1 (λ run. record { floatless = refl; shallow = lit≤ tt }) runs in
    record { floatless = rw all.floatless refl; shallow = omega (arith, all.shallow) }
pad_of (pad.Comments now rev comments) =
    let all = each_of shown_data 2 (λ shown. record { floatless = refl; shallow = lit≤ tt }) comments in
    record { floatless = rw all.floatless refl; shallow = omega (arith, all.shallow) }
pad_of (pad.Changes now rev to pieces notes) =
    let all = each_of piece_data 1 piece_of pieces in
    record { floatless = rw all.floatless refl; shallow = omega (arith, all.shallow) }
pad_of (pad.Entries now entries) =
    let all = each_of entry_data 2 (λ entry. entry_of entry entry.at) entries in
    record { floatless = rw all.floatless refl; shallow = omega (arith, all.shallow) }
pad_of (pad.Times now times) =
    let all = each_of number_data 0 (λ time. record { floatless = refl; shallow = lit≤ tt }) times in
    record { floatless = rw all.floatless refl; shallow = omega (arith, all.shallow) }
pad_of (pad.RevsAt now revs) =
    let all = each_of number_data 0 (λ rev. record { floatless = refl; shallow = lit≤ tt }) revs in
    record { floatless = rw all.floatless refl; shallow = omega (arith, all.shallow) }
pad_of (pad.Who now who) =
    let all = each_of present_data 1 (λ present. record { floatless = refl; shallow = lit≤ tt }) who in
    record { floatless = rw all.floatless refl; shallow = omega (arith, all.shallow) }
pad_of (pad.Rights now false rights) =
    let all = each_of grant_data 1 (λ grant. record { floatless = refl; shallow = lit≤ tt }) rights in
    record { floatless = rw all.floatless refl; shallow = omega (arith, all.shallow) }
pad_of (pad.Rights now true rights) =
    let all = each_of grant_data 1 (λ grant. record { floatless = refl; shallow = lit≤ tt }) rights in
    record { floatless = rw all.floatless refl; shallow = omega (arith, all.shallow) }
pad_of (pad.Marks now marks) =
    let all = each_of mark_data 1 (λ mark. record { floatless = refl; shallow = lit≤ tt }) marks in
    record { floatless = rw all.floatless refl; shallow = omega (arith, all.shallow) }
pad_of (pad.Guests now guests) =
    let all = each_of guest_data 1 (λ guest. record { floatless = refl; shallow = lit≤ tt }) guests in
    record { floatless = rw all.floatless refl; shallow = omega (arith, all.shallow) }
pad_of (pad.Vector now seen) =
    let all = seen_of seen in
    record { floatless = rw all.floatless refl; shallow = omega (arith, all.shallow) }
pad_of (pad.Pulled now ops) =
    let all = each_of op_data 5 op_plain ops in
    record { floatless = rw all.floatless refl; shallow = omega (arith, all.shallow) }
pad_of (pad.Rejoined now visit made None) = record { floatless = refl; shallow = lit≤ tt }
pad_of (pad.Rejoined now visit made (Some name)) = record { floatless = refl; shallow = lit≤ tt }
pad_of other = record { floatless = refl; shallow = lit≤ tt }

reply_of : (said : Reply) → IsPlain 7 (reply_data said)
reply_of (reply.Peer replica version.One) = record { floatless = refl; shallow = lit≤ tt }
reply_of (reply.Peer replica version.Two) = record { floatless = refl; shallow = lit≤ tt }
reply_of (reply.Pad said) = pad_of said
reply_of (reply.Pads pads) =
    let all = each_of listed_data 1 (λ pad. listed_of pad pad.closed) pads in
    record { floatless = rw all.floatless refl; shallow = omega (arith, all.shallow) }
reply_of (reply.People people) =
    let all = each_of person_data 1 (λ person. record { floatless = refl; shallow = lit≤ tt }) people in
    record { floatless = rw all.floatless refl; shallow = omega (arith, all.shallow) }
reply_of other = record { floatless = refl; shallow = lit≤ tt }

outcome_of : (outcome : Result Reply Refusal) → IsPlain 7 (outcome_data outcome)
outcome_of (Ok said) = reply_of said
outcome_of (Err refusal) = record { floatless = refl; shallow = lit≤ tt }

-- no reply holds a float
pub outcome_has_no_float : (outcome : Result Reply Refusal) → has_float (outcome_data outcome) ≡ false
outcome_has_no_float outcome = (outcome_of outcome).floatless

-- no reply is nested deeper
pub outcome_is_shallow : (outcome : Result Reply Refusal) → depth (outcome_data outcome) ≤ 7
outcome_is_shallow outcome = (outcome_of outcome).shallow

pull_of : (pad : List ℕ) (seen : List Counted) (most : ℕ) (batch : Option ℕ) →
    IsPlain 7 (pull_request pad seen most batch)
pull_of pad seen most None =
    let known = seen_of seen in
    record { floatless = rw known.floatless refl; shallow = omega (arith, known.shallow) }
pull_of pad seen most (Some n) =
    let known = seen_of seen in
    record { floatless = rw known.floatless refl; shallow = omega (arith, known.shallow) }

push_of : (pad : List ℕ) (op : Op) → IsPlain 7 (push_request pad op)
push_of pad op =
    let given = op_plain op in
    record { floatless = rw given.floatless refl; shallow = omega (arith, given.shallow) }

-- no request to a peer holds a float
pub peer_has_no_float : (own : ℕ) (token : List ℕ) → has_float (peer_request own token) ≡ false
peer_has_no_float own token = refl

pub pull_has_no_float : (pad : List ℕ) (seen : List Counted) (most : ℕ) (batch : Option ℕ) →
    has_float (pull_request pad seen most batch) ≡ false
pull_has_no_float pad seen most batch = (pull_of pad seen most batch).floatless

pub vector_has_no_float : (pad : List ℕ) → has_float (vector_request pad) ≡ false
vector_has_no_float pad = refl

pub push_has_no_float : (pad : List ℕ) (op : Op) → has_float (push_request pad op) ≡ false
push_has_no_float pad op = (push_of pad op).floatless

-- nor is one nested deeper
pub peer_is_shallow : (own : ℕ) (token : List ℕ) → depth (peer_request own token) ≤ 7
peer_is_shallow own token = lit≤ tt

pub pull_is_shallow : (pad : List ℕ) (seen : List Counted) (most : ℕ) (batch : Option ℕ) →
    depth (pull_request pad seen most batch) ≤ 7
pull_is_shallow pad seen most batch = (pull_of pad seen most batch).shallow

pub vector_is_shallow : (pad : List ℕ) → depth (vector_request pad) ≤ 7
vector_is_shallow pad = lit≤ tt

pub push_is_shallow : (pad : List ℕ) (op : Op) → depth (push_request pad op) ≤ 7
push_is_shallow pad op = (push_of pad op).shallow
