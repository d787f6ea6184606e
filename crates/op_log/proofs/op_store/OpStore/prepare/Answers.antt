use Rattle.std.proofs.Common.{◌≡◌, sym, ap, ◌∙◌, map, inl, inr, arith}
use Rattle.std.proofs.lemmas.Result.{on_ok_weaker}
use Rattle.op_log.specs.Kept.{Kept}
use Rattle.op_log.specs.Read.{read_op}
use Rattle.op_log.proofs.Stores.{all_kept, signed_kept, either, packed_signed, packed_says}
use Rattle.op_log.proofs.op_store.OpStore.prepare.Goals as goal

pub invariant_of-self : goal.invariant_of-self
invariant_of-self c =
    let s = c.self.inside in
    record {
      signed = signed_kept s.authors.items c.place_of.new.authors.items s.shelf.items c.place_of.ensures.len
          c.self.invariant.signed;
      ready = λ bytes is. let lt = c.self.invariant.ready bytes is in omega (arith, lt, c.place_of.ensures.len);
      once = c.place_of.ensures.once c.self.invariant.once;
    }

pub returns-in_err-author-clause-operations : goal.returns-in_err-author-clause-operations
returns-in_err-author-clause-operations c =
    let s = c.self.inside in
    all_kept s.authors.items c.place_of.new.authors.items c.place_of.ensures.others s.shelf.items
    c.self.invariant.signed ∙ ap (λ (k : Kept). k.operations) c.self.view_is

pub invariant_of-self-in_err-packed : goal.invariant_of-self-in_err-packed
invariant_of-self-in_err-packed c =
    let s = c.self.inside in
    record {
      signed = signed_kept s.authors.items c.place_of.new.authors.items s.shelf.items c.place_of.ensures.len
          c.self.invariant.signed;
      ready = λ bytes is. let lt = c.self.invariant.ready bytes is in omega (arith, lt, c.place_of.ensures.len);
      once = c.place_of.ensures.once c.self.invariant.once;
    }

pub returns-in_err-packed-clause-operations : goal.returns-in_err-packed-clause-operations
returns-in_err-packed-clause-operations c =
    let s = c.self.inside in
    all_kept s.authors.items c.place_of.new.authors.items c.place_of.ensures.others s.shelf.items
    c.self.invariant.signed ∙ ap (λ (k : Kept). k.operations) c.self.view_is

pub invariant_of-self-2 : goal.invariant_of-self-2
invariant_of-self-2 c =
    let s = c.self.inside in
    let there = c.in_ok-author.ensures.place in
    record {
      signed = rw c.prepare.ensures.items (signed_kept s.authors.items c.place_of.new.authors.items s.shelf.items
          c.place_of.ensures.len c.self.invariant.signed);
      ready = λ bytes is. elim (either c.prepare.result c.prepare.ensures.ok c.prepare.ensures.err) [
        | inl some ↦
            let both = sym some ∙ is in
            let same : c.deref.result.now ≡ bytes = cc in
            packed_signed c.place_of.new.authors.items c.in_ok-author.author c.args.op.now bytes c.pack.ensures.author
            c.in_ok-packed.ensures.fits there.0 (sym same ∙ c.deref.ensures.value ∙ c.in_ok-packed.ensures.bytes)
        | inr none ↦ let both = sym none ∙ is in absurd (cc)
      ];
      once = c.place_of.ensures.once c.self.invariant.once;
    }

pub returns-clause-operations : goal.returns-clause-operations
returns-clause-operations c =
    let s = c.self.inside in
    ap (map (read_op c.place_of.new.authors.items)) c.prepare.ensures.items
    ∙ all_kept s.authors.items c.place_of.new.authors.items c.place_of.ensures.others s.shelf.items
    c.self.invariant.signed ∙ ap (λ (k : Kept). k.operations) c.self.view_is

pub returns-clause-ok : goal.returns-clause-ok
returns-clause-ok c =
    on_ok_weaker c.prepare.result (λ some. packed_says c.place_of.new.authors.items c.in_ok-author.author c.args.op.now
    c.deref.result.now c.prepare.new.self.ready c.pack.ensures.author c.in_ok-packed.ensures.fits
    c.in_ok-author.ensures.place.1 (c.deref.ensures.value ∙ c.in_ok-packed.ensures.bytes) some) c.prepare.ensures.ok
