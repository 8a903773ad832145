use Rattle.std.proofs.Common.{◌≡◌, ◌+◌, ◌++◌, ◌∷◌, [], ◌∙◌, refl, ap, arith, length, length-append, append_assoc}
use Rattle.fed_journal.specs.Sizes.{entry_bytes, byte_count}
use Rattle.fed_world.proofs.SizeLemmas.{byte-cons, byte-push}
use Rattle.fed_world.proofs.world.append.Goals as goal

-- the entry is one of those that are left
pub push-requires-clause-bytes : goal.push-requires-clause-bytes
push-requires-clause-bytes c =
    let step : byte_count c.loop-entry.entry-iterator.rest.items ≡ entry_bytes c.in-Some.entry + byte_count c.next.new.self.rest.items = ap byte_count c.in-Some.ensures.steps.0 ∙ byte-cons c.in-Some.entry c.next.new.self.rest.items in
    omega (arith, c.loop-entry.invariant.bytes, step)

-- what it has is now the journal's
pub loop-entry-preserved : goal.loop-entry-preserved
loop-entry-preserved c =
    let step : byte_count c.loop-entry.entry-iterator.rest.items ≡ entry_bytes c.in-Some.entry + byte_count c.next.new.self.rest.items = ap byte_count c.in-Some.ensures.steps.0 ∙ byte-cons c.in-Some.entry c.next.new.self.rest.items in
    let more : byte_count c.push.new.self.entries ≡ byte_count c.loop-entry.journal.entries + entry_bytes c.in-Some.entry = ap byte_count c.push.ensures.appended ∙ byte-push c.loop-entry.journal.entries c.in-Some.entry in
    let longer : length (c.loop-entry.yielded ++ c.in-Some.entry ∷ []) ≡ length c.loop-entry.yielded + 1 = length-append c.loop-entry.yielded (c.in-Some.entry ∷ []) in
    record {
      can = tt;
      finite = tt;
      entries = rw (c.push.ensures.appended, c.loop-entry.invariant.entries, append_assoc) refl;
      room = omega (arith, longer, c.loop-entry.invariant.room, c.push.ensures.room);
      bytes = omega (arith, step, more, c.loop-entry.invariant.bytes);
    }
