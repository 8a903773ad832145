mod ShareLemmas
mod SpanLemmas
mod TagLemmas
