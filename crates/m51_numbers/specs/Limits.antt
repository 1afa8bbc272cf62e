-- How large things may be. docs/COMMAND.md has the same numbers ("Limits").
use Rattle.std.specs.Prelude.{◌≡◌}
use Rattle.m51_cells.specs.declared.limits.TheConstants.{MOST_FILES, MOST_FILE_BYTES, MOST_SOURCE_LINES}
use Rattle.m51_cells.specs.declared.limits.TheConstants.{MOST_LINE_BYTES, MOST_INCLUDE_LEVELS, MOST_MODULE_SEGMENTS}
use Rattle.m51_cells.specs.declared.limits.TheConstants.{MOST_EXTERNALS, MOST_FIXUPS, MOST_PIECE_BYTES, MOST_MODULES}
use Rattle.m51_cells.specs.declared.limits.TheConstants.{MOST_SEGMENTS, MOST_UNITS, MOST_CONTROL_LINES}
use Rattle.m51_cells.specs.declared.limits.TheConstants.{MOST_SCRIPT_LINES, MOST_STEPS, MOST_RETURN_RECORDS}
use Rattle.m51_cells.specs.declared.limits.TheConstants.{MOST_POINTS}
use Rattle.m51_module.specs.declared.image.TheConstants.{IMAGE_LEN}
use Rattle.m51_monitor.specs.declared.activity.TheConstants.{MOST_NAMED}
use Rattle.m51_script.specs.Timing.{latest_cycle}
use Rattle.m51_jobs.specs.declared.endings.TheConstants.{LEAST_BOARDS, MOST_BOARDS}
use Rattle.m51_jobs.specs.declared.numbers.TheConstants.{MOST_GENERATED_UNITS}

-- of the files of a call
pub record FileLimits : Type 0 where
  -- file arguments
  pub files : MOST_FILES ≡ 64
  -- bytes of a file
  pub file_bytes : MOST_FILE_BYTES ≡ 1048576
  -- lines of a control file
  pub control_lines : MOST_CONTROL_LINES ≡ 1000
  -- lines of a script, and the latest cycle that it may name
  pub script_lines : MOST_SCRIPT_LINES ≡ 65536
  pub latest : latest_cycle ≡ 99999999

-- of a source, and of its module
pub record ModuleLimits : Type 0 where
  -- lines of a source with its includes, and bytes of a line
  pub source_lines : MOST_SOURCE_LINES ≡ 65535
  pub line_bytes : MOST_LINE_BYTES ≡ 255
  -- how many levels deep includes may be
  pub include_levels : MOST_INCLUDE_LEVELS ≡ 8
  -- segments, externals and fixups of a module, and bytes of a piece of its content
  pub module_segments : MOST_MODULE_SEGMENTS ≡ 254
  pub externals : MOST_EXTERNALS ≡ 255
  pub fixups : MOST_FIXUPS ≡ 65535
  pub piece_bytes : MOST_PIECE_BYTES ≡ 1024

-- of a link
pub record LinkLimits : Type 0 where
  -- modules of a link, and of a library
  pub modules : MOST_MODULES ≡ 255
  -- joined segments, and units
  pub segments : MOST_SEGMENTS ≡ 2000
  pub units : MOST_UNITS ≡ 1000
  -- bytes of program memory
  pub image : IMAGE_LEN ≡ 65536
  -- combinations of start, address and height in a bound of the stack
  pub points : MOST_POINTS ≡ 1000000

-- of a run
pub record RunLimits : Type 0 where
  -- steps
  pub steps : MOST_STEPS ≡ 10000000
  -- return records at once
  pub return_records : MOST_RETURN_RECORDS ≡ 128
  -- units in the list of those that they name
  pub named_units : MOST_NAMED ≡ 3000
  -- boards on one serial line
  pub least_boards : LEAST_BOARDS ≡ 2
  pub most_boards : MOST_BOARDS ≡ 8
  -- units of a program that is generated
  pub generated_units : MOST_GENERATED_UNITS ≡ 100

pub record LimitsHaveNumbers : Type 0 where
  pub files : FileLimits
  pub modules : ModuleLimits
  pub link : LinkLimits
  pub run : RunLimits
