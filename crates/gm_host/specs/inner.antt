-- The definitions of gm_host that no clause of `tool` rests on: FileStore, Files, MemSink, MemStore, Sink, StdSink, SureSink and SureStore.
pub mod FileStore
pub mod Files
pub mod MemSink
pub mod MemStore
pub mod Sink
pub mod StdSink
pub mod SureSink
pub mod SureStore
