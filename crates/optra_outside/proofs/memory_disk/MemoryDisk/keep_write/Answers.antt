use Rattle.std.proofs.Common.{◌≡◌, ℕ, ◌≤◌, ◌++◌, length, refl, ap, arith, length-append, rules}
use Rattle.optra_outside.specs.MemoryDisk.{file_of}
use Rattle.optra_outside.specs.declared.memory_disk.Span.{Span}
use Rattle.optra_outside.specs.declared.memory_disk.Piece.{Piece}
use Rattle.optra_outside.proofs.Kept.{kept_write, within_write, held_write}
use Rattle.optra_outside.proofs.Overwritten.{length-overwritten}
use Rattle.optra_outside.proofs.memory_disk.MemoryDisk.keep_write.Goals as goal

pub invariant_of-self : goal.invariant_of-self
invariant_of-self c =
    let first = c.self.inside.first.items in
    let pieces = c.self.inside.pieces.items in
    let kept = c.self.inside.kept.items in
    let bytes = c.args.bytes.now in
    let held = c.self.invariant.0 in
    let within = c.self.invariant.1 in
    let one : c.extend_from_slice.new.self.items ≡ pieces ++ bytes = search rules in
    let piece : Piece = record { at = c.args.at; start = c.len-start.result; end = c.len-end.result } in
    let start : piece.start ≡ length pieces = grind arith in
    let end : piece.end ≡ length (pieces ++ bytes) = grind (arith, length-append {A = ℕ}) in
    let is = kept_write first pieces bytes kept piece start end within in
    let span : Span = record { at = c.args.at; count = length bytes } in
    let inside : c.args.at ≤ length c.self.inside.bytes.items = omega (arith, c.requires.inside, ap (λ m. length m.file.now.bytes) c.self.view_is, ap length held.bytes_are) in
    let long = length-overwritten c.args.at bytes c.self.inside.bytes.items inside in
    rw (one, c.push_reserved.ensures.items, c.push_reserved-2.ensures.items, c.overwrite.ensures.bytes, is) (
      held_write (file_of first pieces kept) c.self.inside.bytes.items c.self.inside.synced c.args.at c.self.inside.written.items bytes span refl refl inside held,
      within_write pieces bytes kept piece end within,
      omega (arith, long),
      omega (arith, length-append pieces bytes, c.push_reserved.ensures.len, length-append {A = _} kept),
      omega (arith, c.requires.room, ap (λ m. m.used) c.self.view_is, ap (λ m. m.room) c.self.view_is),
      omega arith,
      omega arith,
      omega arith,
      omega arith,
      omega arith,
      omega arith,
      omega (arith, length-append {A = _} c.self.inside.written.items),
    )

pub returns : goal.returns
returns c =
    let first = c.self.inside.first.items in
    let pieces = c.self.inside.pieces.items in
    let kept = c.self.inside.kept.items in
    let bytes = c.args.bytes.now in
    let within = c.self.invariant.1 in
    let one : c.extend_from_slice.new.self.items ≡ pieces ++ bytes = search rules in
    let piece : Piece = record { at = c.args.at; start = c.len-start.result; end = c.len-end.result } in
    let start : piece.start ≡ length pieces = grind arith in
    let end : piece.end ≡ length (pieces ++ bytes) = grind (arith, length-append {A = ℕ}) in
    let is = kept_write first pieces bytes kept piece start end within in
    rw (one, c.push_reserved.ensures.items, is, ← c.self.view_is)
