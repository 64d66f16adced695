use Rattle.std.proofs.Common.{take, ◌∙◌, sym, arith}
use Rattle.std.proofs.lemmas.List.{length-take-le}
use Rattle.std.proofs.lemmas.Simd.{length-chunk}
use Rattle.lsp_types.specs.declared.position.Encoding.TheVariants.{Utf16, Utf32}
use Rattle.lsp_text.specs.Offsets.{byte_units}
use Rattle.lsp_text.proofs.ByteUnits.{sum_ascii, sum_block, sum_byte, block_few, byte_few}
use Rattle.lsp_text.proofs.Starts.{utf16_few, utf32_few}
use Rattle.lsp_text.proofs.lanes.count.Goals as goal

pub loop-at-init : goal.loop-at-init
loop-at-init c =
    let bs = c.args.bytes.now in
    let n = c.ascii_front-at.result in
    let h = c.ascii_front-at.ensures in
    let long = length-take-le n bs h.within in
    record {
      chars = sym (sum_ascii Utf32 (take n bs) (h.ascii ∙ sym long) ∙ long);
      utf16 = sym (sum_ascii Utf16 (take n bs) (h.ascii ∙ sym long) ∙ long);
      within = h.within;
    }

pub units_in-requires : goal.units_in-requires
units_in-requires c = length-chunk c.loop-at.at 32 c.args.bytes.now c.loop-at-test.true

pub units_in-requires-in-loop-at : goal.units_in-requires-in-loop-at
units_in-requires-in-loop-at c = length-chunk c.loop-at.at 32 c.args.bytes.now c.loop-at-test.true

pub loop-at-preserved : goal.loop-at-preserved
loop-at-preserved c =
    record {
      chars = sum_block (byte_units Utf32) c.args.bytes.now c.loop-at.at c.loop-at.chars
          c.units_in.result c.loop-at.invariant.chars c.units_in.ensures;
      utf16 = sum_block (byte_units Utf16) c.args.bytes.now c.loop-at.at c.loop-at.utf16
          c.units_in-in-loop-at.result c.loop-at.invariant.utf16 c.units_in-in-loop-at.ensures;
      within = c.loop-at-test.true;
    }

pub overflow_add-chars : goal.overflow_add-chars
overflow_add-chars c =
    record {
      fits =
          omega (
            arith,
            block_few (byte_units Utf32) c.args.bytes.now c.loop-at.at c.loop-at.chars
                c.units_in.result utf32_few c.loop-at-test.true c.loop-at.invariant.chars
                c.units_in.ensures,
          );
    }

pub overflow_add-utf16 : goal.overflow_add-utf16
overflow_add-utf16 c =
    record {
      fits =
          omega (
            arith,
            block_few (byte_units Utf16) c.args.bytes.now c.loop-at.at c.loop-at.utf16
                c.units_in-in-loop-at.result utf16_few c.loop-at-test.true c.loop-at.invariant.utf16
                c.units_in-in-loop-at.ensures,
          );
    }

pub overflow_add-chars-in-loop-byte : goal.overflow_add-chars-in-loop-byte
overflow_add-chars-in-loop-byte c =
    record {
      fits =
          omega (
            arith,
            byte_few (byte_units Utf32) c.args.bytes.now c.loop-at.at c.loop-byte.byte-index
                c.loop-byte.chars c.units_of_byte.result utf32_few (omega arith) (omega arith)
                c.loop-byte.invariant.chars c.units_of_byte.ensures,
          );
    }

pub overflow_add-utf16-in-loop-byte : goal.overflow_add-utf16-in-loop-byte
overflow_add-utf16-in-loop-byte c =
    record {
      fits =
          omega (
            arith,
            byte_few (byte_units Utf16) c.args.bytes.now c.loop-at.at c.loop-byte.byte-index
                c.loop-byte.utf16 c.units_of_byte-in-loop-byte.result utf16_few (omega arith)
                (omega arith) c.loop-byte.invariant.utf16
                c.units_of_byte-in-loop-byte.ensures,
          );
    }

pub loop-byte-preserved : goal.loop-byte-preserved
loop-byte-preserved c =
    record {
      chars = sum_byte (byte_units Utf32) c.args.bytes.now c.loop-at.at c.loop-byte.byte-index
          c.loop-byte.chars c.units_of_byte.result (omega arith) (omega arith)
          c.loop-byte.invariant.chars c.units_of_byte.ensures;
      utf16 =
          sum_byte (byte_units Utf16) c.args.bytes.now c.loop-at.at c.loop-byte.byte-index
          c.loop-byte.utf16 c.units_of_byte-in-loop-byte.result (omega arith) (omega arith)
          c.loop-byte.invariant.utf16
          c.units_of_byte-in-loop-byte.ensures;
      within = c.loop-byte.invariant.within;
    }
