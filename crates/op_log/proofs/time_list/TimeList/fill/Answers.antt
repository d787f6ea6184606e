use Rattle.std.proofs.Common.{◌≡◌, ◌≤◌, ◌<◌, ◌++◌, ◌-◌, length, max, replicate, List, ℕ, refl, sym, ap, ◌∙◌, subst, arith, vec_len}
use Rattle.std.proofs.Common.{vec_capacity, ltb}
use Rattle.op_log.specs.Times.{IsRising, Times, base_at, base_after, begun, last_time, times_from}
use Rattle.op_log.proofs.TimeLists.{none_filled, resized, added_long, fills, filled_known, times_long, based_after, IsFilled, roomy, room_of}
use Rattle.op_log.proofs.time_list.TimeList.fill.Goals as goal

pub returns-then-count-len-clause-times : goal.returns-then-count-len-clause-times
returns-then-count-len-clause-times c =
    let shown : times_from c.self.inside.eras.items 0 c.self.inside.past.items ≡ c.args.self.now.times =
    ap (λ (t : Times). t.times) c.self.view_is in
    let long : length c.args.self.now.times ≡ length c.self.inside.past.items =
    ap length (sym shown) ∙ times_long c.self.inside.eras.items 0 c.self.inside.past.items in
    none_filled c.args.self.now.times c.args.count (max c.args.now (last_time c.args.self.now.times)) (omega arith)

pub returns-then-count-len-clause-room : goal.returns-then-count-len-clause-room
returns-then-count-len-clause-room c =
    let long = times_long c.self.inside.eras.items 0 c.self.inside.past.items in
    subst (λ (t : Times). length t.times ≤ t.room) c.self.view_is
    (roomy (ltb (vec_len c.self.inside.eras) (vec_capacity c.self.inside.eras)) _ (length c.self.inside.past.items)
    (vec_capacity c.self.inside.past) (omega (arith, long)) c.self.invariant.fits)

-- the differences that were added, and that there was room for them
record Added (steps new : List ℕ) (count step room after : ℕ) : Type 0 where
  is : new ≡ steps ++ replicate (count - length steps) step
  long : length new ≡ count
  fits : length new ≤ after

added : (c : goal.After-self-1) → Added c.self.inside.past.items c.resize-filled.new.self.items c.args.count
    c.step_to-step.result (vec_capacity c.self.inside.past) (vec_capacity c.resize-filled.new.self)
added c =
    let more = c.if-count-len.false in
    let room : c.args.count ≤ vec_capacity c.self.inside.past =
    room_of (ltb (vec_len c.self.inside.eras) (vec_capacity c.self.inside.eras)) c.args.count
    (length c.self.inside.past.items) (vec_capacity c.self.inside.past)
    (subst (λ (t : Times). c.args.count ≤ t.room) (sym c.self.view_is) c.requires) (omega arith) in
    let long : vec_len c.self.inside.past ≡ length c.self.inside.past.items = omega arith in
    let is : c.resize-filled.new.self.items
    ≡ c.self.inside.past.items ++ replicate (c.args.count - length c.self.inside.past.items) c.step_to-step.result =
    resized c.resize-filled.result c.self.inside.past.items c.resize-filled.new.self.items c.args.count
    (vec_len c.self.inside.past) c.step_to-step.result (c.resize-filled.ensures.succeeds room) long (omega arith)
    c.resize-filled.ensures.items
    ∙ ap (λ n. c.self.inside.past.items ++ replicate (c.args.count - n) c.step_to-step.result) long in
    let all = added_long c.self.inside.past.items c.resize-filled.new.self.items c.args.count c.step_to-step.result
    (omega arith) is in
    let grown = c.resize-filled.ensures.capacity in
    record {
      is = is;
      long = all;
      fits = omega (arith, all, room, grown);
    }

pub returns-clause-times : goal.returns-clause-times
returns-clause-times c =
    let shown : times_from c.self.inside.eras.items 0 c.self.inside.past.items ≡ c.args.self.now.times =
    ap (λ (t : Times). t.times) c.self.view_is in
    let now_is : c.max-now.result ≡ max c.args.now (last_time c.args.self.now.times) =
    c.max-now.ensures ∙ ap (max c.args.now) (c.self.invariant.last ∙ ap last_time shown) in
    fills c.self.inside.eras.items c.step_to-step.new.eras.items c.self.inside.past.items c.resize-filled.new.self.items
    c.len-place.result c.self.inside.base c.step_to-step.new.base c.max-now.result c.step_to-step.result c.args.count
    c.args.self.now.times shown c.self.invariant.based (omega arith)
    c.step_to-step.ensures.eras c.step_to-step.ensures.base c.step_to-step.ensures.step (added c).is
    ∙ ap (λ t. c.args.self.now.times ++ replicate (c.args.count - length c.args.self.now.times) t) now_is

pub invariant_of-self : goal.invariant_of-self
invariant_of-self c =
    let old = times_from c.self.inside.eras.items 0 c.self.inside.past.items in
    let all : times_from c.step_to-step.new.eras.items 0 c.resize-filled.new.self.items
    ≡ old ++ replicate (c.args.count - length old) c.max-now.result =
    fills c.self.inside.eras.items c.step_to-step.new.eras.items c.self.inside.past.items c.resize-filled.new.self.items
    c.len-place.result c.self.inside.base c.step_to-step.new.base c.max-now.result c.step_to-step.result c.args.count
    old refl c.self.invariant.based (omega arith)
    c.step_to-step.ensures.eras c.step_to-step.ensures.base c.step_to-step.ensures.step (added c).is in
    let long = times_long c.self.inside.eras.items 0 c.self.inside.past.items in
    let more = c.if-count-len.false in
    let late = c.max-now.ensures in
    let known = filled_known old c.self.inside.last c.max-now.result c.args.count c.self.invariant.rising
    c.self.invariant.last (omega (arith, late)) (omega (arith, long, more)) in
    let step_is = c.step_to-step.ensures.step in
    let place_is : c.len-place.result ≡ length c.self.inside.past.items = omega arith in
    let behind = (added c).long in
    record {
      rising = subst IsRising (sym all) known.rising;
      last = known.last_is ∙ ap last_time (sym all);
      low = omega (arith, step_is);
      small = c.max-now.type_inv;
      fits = (added c).fits;
      based = λ p low.
          ap (λ es. base_at es p) c.step_to-step.ensures.eras
          ∙ based_after c.self.inside.eras.items c.len-place.result c.self.inside.base c.max-now.result
          (λ q there. c.self.invariant.based q (omega (arith, place_is, there))) p (omega (arith, place_is, behind, low, more))
          ∙ sym c.step_to-step.ensures.base;
    }

pub returns-clause-room : goal.returns-clause-room
returns-clause-room c =
    roomy (ltb (vec_len c.step_to-step.new.eras) (vec_capacity c.step_to-step.new.eras)) _
    (length c.resize-filled.new.self.items) (vec_capacity c.resize-filled.new.self)
    (let long = times_long c.step_to-step.new.eras.items 0 c.resize-filled.new.self.items in omega (arith, long))
    (added c).fits
