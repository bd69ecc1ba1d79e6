-- What is beyond the boundary to std.
use Rattle.tile_io.specs.declared.std_sink.StdSink.{StdSink}
use Rattle.tile_io.specs.declared.std_source.StdSource.{StdSource}

-- the reader that a source reads from
abbrev pub reader_of : {R : Type 0} → StdSource R → R
reader_of source = source.reader

-- the writer that a sink writes to
abbrev pub writer_of : {W : Type 0} → StdSink W → W
writer_of sink = sink.writer
