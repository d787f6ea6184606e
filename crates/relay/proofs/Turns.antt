-- One operation is pulled, and one is pushed, in a turn for which there is room.
use Rattle.std.proofs.Common.{◌≡◌, ◌+◌, ◌*◌, ◌<◌, ℕ, true, false, List, [], ◌∷◌, Option, None, Some, Result, Ok, refl, arith, leb}
use Rattle.std.proofs.Common.{lt-ltb, length, length-set, ap, ◌∙◌}
use Rattle.std.proofs.lemmas.List.{get_or-set_same}
use Rattle.std.specs.Prelude.{slice_set}
use Rattle.std.proofs.lemmas.Bool.{lt-leb}
use Rattle.pad_model.specs.OldWire.{op_in_v1}
use Rattle.pad_model.specs.declared.limits.TheConstants.{MAX_OPERATIONS}
use Rattle.pad_model.specs.declared.op.Op.{Op}
use Rattle.pad_model.specs.declared.seen.Counted.{Counted}
use Rattle.pad_model.specs.declared.refusal.Refusal.{Refusal}
use Rattle.pad_core.specs.declared.act.Act.TheVariants as act
use Rattle.pad_core.specs.declared.exchange.TheConstants.{MAX_BATCH}
use Rattle.pad_core.specs.declared.request.Request.{Request}
use Rattle.pad_core.specs.declared.reply.Pushed.TheVariants as pushed
use Rattle.wire_json.specs.Peers.{push_answer, push_request}
use Rattle.wire_json.specs.declared.peer_answer.Told.TheVariants.{Said}
use Rattle.conversation.specs.Session.{Answer}
use Rattle.relay.specs.Laws.{OneRequestLaw, PulledLaw, PushedLaw}
use Rattle.relay.specs.Counts.{with_pull, with_pulled, with_pushed}
use Rattle.relay.specs.Round.{Asks, Heard, Reaches, Sends, World, counted, is_readable, known_at, noted, own_ops, with_op}
use Rattle.relay.specs.Round.Reaches.{here, on}
use Rattle.relay.specs.Round.Stage.{Counting, Giving, Hearing, Lacking, Over, Pulled, Pulling, Pushing, Taking}
use Rattle.relay.specs.declared.limits.TheConstants.{MAX_OPS, MAX_PULL_TURNS, MAX_PUSH_TURNS}
use Rattle.relay.proofs.Steps.{join}

-- a turn of pulling is left while less may have come than a pad can have
pull_left : (turn : ℕ) → turn * MAX_OPS < MAX_OPERATIONS → leb MAX_PULL_TURNS turn ≡ false
pull_left turn h = lt-leb MAX_PULL_TURNS turn (omega arith)

-- and so is a turn of pushing
push_left : (turn : ℕ) → turn * MAX_BATCH < MAX_OPERATIONS → leb MAX_PUSH_TURNS turn ≡ false
push_left turn h = lt-leb MAX_PUSH_TURNS turn (omega arith)

module _ {P : Type 0} (calls : P → Request → Answer → P → Type 0)
    (names : P → ℕ → Result (Option (List ℕ)) Refusal → P → Type 0) where
  pub pulled_then : PulledLaw calls names
  pulled_then name turn count vector made seen op old told sent heard new room asks said readable sends hears pushes counts gained =
      on {mid = Pulled name turn} {v = sent}
      (rw (pull_left turn room) (vector, told, asks, rw (said, readable) refl, rw (said, readable) sends))
      (on {mid = Taking name turn false (op ∷ [])} {v = counted (with_pull turn) heard} (Some (Said (op ∷ [])), heard, hears, refl)
      (on {mid = Taking name turn true []} {v = counted (with_pulled count) new}
      (made, new, pushes, rw (counts, lt-ltb 0 count gained) refl)
      (on {mid = Pulling name (turn + 1)} {v = counted (with_pulled count) new} (refl, refl) here)))

  -- what the peer lacks is one operation, which it delivers
  one_pushed : (name : List ℕ) (turn : ℕ) (lacking : Answer) (seen : List Counted) (op : Op)
      (told given sent heard : World P)
      → Asks calls names name (act.Pull seen MAX_OPS (Some MAX_BATCH)) lacking told given
      → own_ops lacking ≡ Ok (Some (op ∷ []))
      → is_readable given.version (op_in_v1 op) ≡ true
      → Sends (push_request name op) given sent
      → Heard push_answer (Some (Said pushed.Delivered)) sent heard
      → Reaches calls names (Lacking name turn seen) told (Pushing name (turn + 1))
      (noted (Some (with_op op seen)) (counted with_pushed heard))
  one_pushed name turn lacking seen op told given sent heard asks lacks readable pushes hears_push =
      on {mid = Giving name turn seen 0 (op ∷ [])} {v = given} (lacking, given, asks, rw lacks refl)
      (on {mid = Giving name turn (with_op op seen) 1 []} {v = sent} (rw readable (pushes, refl))
      (on {mid = Hearing name turn (with_op op seen) 1 false true true} {v = sent} (refl, refl)
      (on {mid = Hearing name turn (with_op op seen) 0 true true true} {v = counted with_pushed heard}
      (Some (Said pushed.Delivered), heard, hears_push, refl)
      (on {mid = Pushing name (turn + 1)} {v = noted (Some (with_op op seen)) (counted with_pushed heard)} (refl, refl)
      here))))

  pub pushed_then : PushedLaw calls names
  pushed_then name turn lacking seen op old asked told given sent heard room unknown sends hears asks lacks readable pushes
      hears_push =
      on {mid = Counting name turn} {v = asked} (rw (push_left turn room, unknown) (sends, refl))
      (on {mid = Lacking name turn seen} {v = told} (Some (Said seen), told, hears, refl)
      (one_pushed name turn lacking seen op told given sent heard asks lacks readable pushes hears_push))

  -- it is known what the peer has: it is sent one operation, and asked nothing
  pub one_request : OneRequestLaw calls names
  one_request name lacking nothing seen op old given sent heard new known inside asks lacks readable pushes hears_push asks_more
      none =
      on {mid = Lacking name 0 seen} {v = noted None old} (rw known (refl, refl))
      (join calls names _ _ _ _ _ _
      (one_pushed name 0 lacking seen op (noted None old) given sent heard asks lacks readable pushes hears_push)
      (on {mid = Lacking name 1 (with_op op seen)} {v = noted None after} (rw is_known (refl, refl))
      (on {mid = Giving name 1 (with_op op seen) 0 []} {v = new} (nothing, new, asks_more, rw none refl)
      (on {mid = Hearing name 1 (with_op op seen) 0 false true true} {v = new} (refl, refl)
      (on {mid = Over} {v = noted (Some (with_op op seen)) new} (refl, refl) here)))))
    where
      after : World P
      after = noted (Some (with_op op seen)) (counted with_pushed heard)

      -- a wire and pads apart, this is the world of before
      same_table : heard.known ≡ slice_set old.known old.cell None
      same_table =
          ap (λ w. w.known) hears_push.1 ∙ ap (λ w. w.known) pushes.1 ∙ ap (λ w. w.known) asks.1

      same_cell : heard.cell ≡ old.cell
      same_cell = ap (λ w. w.cell) hears_push.1 ∙ ap (λ w. w.cell) pushes.1 ∙ ap (λ w. w.cell) asks.1

      in_table : heard.cell < length heard.known
      in_table = rw (same_table, same_cell, length-set old.known old.cell None) inside

      is_known : known_at after.known after.cell ≡ Some (with_op op seen)
      is_known = get_or-set_same heard.known heard.cell (Some (with_op op seen)) None in_table
