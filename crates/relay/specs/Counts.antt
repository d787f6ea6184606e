-- What a round counts.
use Rattle.std.specs.Prelude.{ℕ, zero, suc, ◌+◌}
use Rattle.conversation.specs.Delivered.{up_to}
use Rattle.relay.specs.declared.relayed.Relayed.{Relayed}

-- the results of a round that has done nothing yet
abbrev pub none_yet : Relayed
none_yet = record { pads = 0; pulled = 0; pushed = 0; refused = 0; unsaid = 0 }

-- the results with one more pad whose operations the peer sends
abbrev pub with_pad : Relayed → Relayed
with_pad r = record {
  pads = up_to (r.pads + 1);
  pulled = r.pulled;
  pushed = r.pushed;
  refused = r.refused;
  unsaid = r.unsaid;
}

-- the results with a pull after this many turns: the first one counts the pad
abbrev pub with_pull : ℕ → Relayed → Relayed
with_pull zero r = with_pad r
with_pull (suc turn) r = r

-- the results with more operations delivered here
abbrev pub with_pulled : ℕ → Relayed → Relayed
with_pulled count r = record {
  pads = r.pads;
  pulled = up_to (r.pulled + count);
  pushed = r.pushed;
  refused = r.refused;
  unsaid = r.unsaid;
}

-- the results with one more operation delivered at the peer
abbrev pub with_pushed : Relayed → Relayed
with_pushed r = record {
  pads = r.pads;
  pulled = r.pulled;
  pushed = up_to (r.pushed + 1);
  refused = r.refused;
  unsaid = r.unsaid;
}

-- the results with one more operation refused, here or there
abbrev pub with_refused : Relayed → Relayed
with_refused r = record {
  pads = r.pads;
  pulled = r.pulled;
  pushed = r.pushed;
  refused = up_to (r.refused + 1);
  unsaid = r.unsaid;
}

-- the results with one more pad that has something that the peer's version cannot express
abbrev pub with_unsaid : Relayed → Relayed
with_unsaid r = record {
  pads = r.pads;
  pulled = r.pulled;
  pushed = r.pushed;
  refused = r.refused;
  unsaid = up_to (r.unsaid + 1);
}
