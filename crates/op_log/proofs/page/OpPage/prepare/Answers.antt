use Rattle.std.proofs.Common.{◌≡◌, ◌++◌, ℕ, List, Some, ap, ◌∙◌, arith, length, drop, vec_len, append_assoc}
use Rattle.op_log.specs.Number.{number_bytes}
use Rattle.op_log.specs.Items.{Items}
use Rattle.op_log.specs.Page.{framed}
use Rattle.op_log.proofs.Pages.{items_kept, hold_kept, written_behind, written_partly, item_framed}
use Rattle.op_log.proofs.page.OpPage.prepare.Goals as goal

pub invariant_of-self : goal.invariant_of-self
invariant_of-self c =
    let p = c.self.inside in
    let hold = c.self.invariant.hold in
    let cut : vec_len c.truncate.new.self ≡ p.end = omega (arith, c.truncate.ensures.len, hold.within, p.bytes.ok.0) in
    let kept = written_partly p.end _ p.bytes.items c.truncate.new.self.items c.push_number.new.bytes.items hold.within
    c.truncate.ensures.items cut c.in_err-push_number.ensures.err in
    record {
      few = c.self.invariant.few;
      hold = hold_kept p.count p.end p.bytes.items c.push_number.new.bytes.items hold kept.0 kept.1;
      ready = λ e. absurd (cc);
    }

pub returns-in_err-push_number-clause-items : goal.returns-in_err-push_number-clause-items
returns-in_err-push_number-clause-items c =
    let p = c.self.inside in
    let hold = c.self.invariant.hold in
    let cut : vec_len c.truncate.new.self ≡ p.end = omega (arith, c.truncate.ensures.len, hold.within, p.bytes.ok.0) in
    let kept = written_partly p.end _ p.bytes.items c.truncate.new.self.items c.push_number.new.bytes.items hold.within
    c.truncate.ensures.items cut c.in_err-push_number.ensures.err in
    items_kept p.count p.end p.bytes.items c.push_number.new.bytes.items hold kept.0
    ∙ ap (λ (s : Items). s.items) c.self.view_is

pub invariant_of-self-in_err-extend_from_slice : goal.invariant_of-self-in_err-extend_from_slice
invariant_of-self-in_err-extend_from_slice c =
    let p = c.self.inside in
    let hold = c.self.invariant.hold in
    let kept = written_behind p.end p.bytes.items c.truncate.new.self.items c.extend_from_slice.new.self.items
    (number_bytes (length c.args.item.now)) hold.within c.truncate.ensures.items
    (c.in_err-extend_from_slice.ensures.items ∙ c.in_ok-push_number.ensures.ok) in
    record {
      few = c.self.invariant.few;
      hold = hold_kept p.count p.end p.bytes.items c.extend_from_slice.new.self.items hold kept.0 kept.1;
      ready = λ e. absurd (cc);
    }

pub returns-in_err-extend_from_slice-clause-items : goal.returns-in_err-extend_from_slice-clause-items
returns-in_err-extend_from_slice-clause-items c =
    let p = c.self.inside in
    let hold = c.self.invariant.hold in
    let kept = written_behind p.end p.bytes.items c.truncate.new.self.items c.extend_from_slice.new.self.items
    (number_bytes (length c.args.item.now)) hold.within c.truncate.ensures.items
    (c.in_err-extend_from_slice.ensures.items ∙ c.in_ok-push_number.ensures.ok) in
    items_kept p.count p.end p.bytes.items c.extend_from_slice.new.self.items hold kept.0
    ∙ ap (λ (s : Items). s.items) c.self.view_is

pub invariant_of-self-2 : goal.invariant_of-self-2
invariant_of-self-2 c =
    let p = c.self.inside in
    let hold = c.self.invariant.hold in
    let item = c.args.item.now in
    let all = c.in_ok-extend_from_slice.ensures.items
    ∙ ap (λ (b : List ℕ). b ++ item) c.in_ok-push_number.ensures.ok
    ∙ append_assoc c.truncate.new.self.items (number_bytes (length item)) item in
    let kept = written_behind p.end p.bytes.items c.truncate.new.self.items c.extend_from_slice.new.self.items
    (framed item) hold.within c.truncate.ensures.items all in
    record {
      few = c.self.invariant.few;
      hold = hold_kept p.count p.end p.bytes.items c.extend_from_slice.new.self.items hold kept.0 kept.1;
      ready = λ e. (item_framed item (drop p.end c.extend_from_slice.new.self.items) c.push_number.ensures.bound kept.2).0;
    }

pub returns-clause-items : goal.returns-clause-items
returns-clause-items c =
    let p = c.self.inside in
    let hold = c.self.invariant.hold in
    let item = c.args.item.now in
    let all = c.in_ok-extend_from_slice.ensures.items
    ∙ ap (λ (b : List ℕ). b ++ item) c.in_ok-push_number.ensures.ok
    ∙ append_assoc c.truncate.new.self.items (number_bytes (length item)) item in
    let kept = written_behind p.end p.bytes.items c.truncate.new.self.items c.extend_from_slice.new.self.items
    (framed item) hold.within c.truncate.ensures.items all in
    items_kept p.count p.end p.bytes.items c.extend_from_slice.new.self.items hold kept.0
    ∙ ap (λ (s : Items). s.items) c.self.view_is

pub returns-clause-ok : goal.returns-clause-ok
returns-clause-ok c =
    let p = c.self.inside in
    let hold = c.self.invariant.hold in
    let item = c.args.item.now in
    let all = c.in_ok-extend_from_slice.ensures.items
    ∙ ap (λ (b : List ℕ). b ++ item) c.in_ok-push_number.ensures.ok
    ∙ append_assoc c.truncate.new.self.items (number_bytes (length item)) item in
    let kept = written_behind p.end p.bytes.items c.truncate.new.self.items c.extend_from_slice.new.self.items
    (framed item) hold.within c.truncate.ensures.items all in
    ap (λ (x : List ℕ). Some x) (item_framed item (drop p.end c.extend_from_slice.new.self.items)
    c.push_number.ensures.bound kept.2).1
